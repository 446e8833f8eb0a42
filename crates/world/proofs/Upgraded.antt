-- An upgrade, stopped or not, leaves what goes back to the same prefixes, and images of the board.
use Rattle.std.proofs.Common.{◌≡◌, true, ℕ, ◌≤◌, List, length, arith}
use Rattle.world.proofs.Common.{length-map, Content, DiskState, MayLeave, Request, Partition}
use Rattle.world.proofs.Common.{GuestConfig, capacities_of, IsImage, LeavesAsBefore, LeavesPrefixes}
use Rattle.world.proofs.Common.{IsPrefix}
use Rattle.recovery.proofs.Before.{such_before, image_before}

length-capacities : (config : List GuestConfig) → length (capacities_of config) ≡ length config
unfolding capacities_of
length-capacities config = length-map config (λ c. c.capacity)

pub prefixes_upgraded : (config : List GuestConfig) (bases : ℕ → Partition) (accepted : ℕ
    → List Request) (least : ℕ → ℕ) (old s : DiskState) → old.faithful ≡ true
    → LeavesAsBefore (capacities_of config) old s → LeavesPrefixes config bases accepted least old
    → LeavesPrefixes config bases accepted least s
prefixes_upgraded config bases accepted least old s known back leaves g lt c may =
    let long = length-capacities config in
    such_before (capacities_of config) (λ g q. IsPrefix (bases g) (accepted g) (least g) q) old s
    known back
    (λ h below. leaves h (omega arith)) g (omega arith) c may

pub images_upgraded : (config : List GuestConfig) (old s : DiskState) → length config ≤ 64
    → old.faithful ≡ true → LeavesAsBefore (capacities_of config) old s
    → ((c : Content) → MayLeave old c → IsImage (capacities_of config) old.len c) → (c : Content)
    → MayLeave s c → IsImage (capacities_of config) s.len c
images_upgraded config old s few known back image =
    (let long = length-capacities config in image_before (capacities_of config) old s (omega arith)
    known back image)
