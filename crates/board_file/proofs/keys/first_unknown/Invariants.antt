use Rattle.std.proofs.Common.{◌≡◌, string_bytes}
use Rattle.std.specs.BTreeMap.{keys}
use Rattle.std.specs.List.{list_all, list_any}
use Rattle.std.specs.Str.{bytes_eq}
use Rattle.board_file.proofs.keys.first_unknown.Given as goal

-- what the keys say that are left, all keys say
abbrev pub invariant-loop-key : goal.invariant-loop-key
invariant-loop-key l =
    list_all (λ key. list_any (λ k. bytes_eq (string_bytes key) k.now) l.known) (keys l.table)
    ≡ list_all (λ key. list_any (λ k. bytes_eq (string_bytes key) k.now) l.known) l.key-iterator
