-- Ways that a disk goes by calls, for every disk: what held at each moment may be weakened, and one
-- way goes on after another.
use Rattle.disk.specs.Disk.{DiskState, DiskCall, during, Within, Still, Then}

module _ {D : Type 0} (state : D → DiskState) (makes : D → DiskCall → D → Type 0) where
  -- it held at the end
  pub within_end : (P : DiskState → Type 0) (a b : D) → Within state makes P a b → P (state b)
  within_end P a b (Still d p) = p
  within_end P a b (Then x m y call way made mid p) = p

  -- it held at the start
  pub within_start : (P : DiskState → Type 0) (a b : D) → Within state makes P a b → P (state a)
  within_start P a b (Still d p) = p
  within_start P a b (Then x m y call way made mid p) = within_start P x m way

  -- what follows from it held too
  pub within_weaker : (P Q : DiskState → Type 0) (a b : D) → ((s : DiskState) → P s → Q s)
      → Within state makes P a b → Within state makes Q a b
  within_weaker P Q a b f (Still d p) = Still d (f (state d) p)
  within_weaker P Q a b f (Then x m y call way made mid p) =
      Then x m y call (within_weaker P Q x m f way) made (f (during (state m) call) mid)
      (f (state y) p)

  -- one way after another
  pub within_more : (P : DiskState → Type 0) (a b c : D) → Within state makes P a b
      → Within state makes P b c → Within state makes P a c
  within_more P a b c first (Still d p) = first
  within_more P a b c first (Then x m y call way made mid p) =
      Then a m y call (within_more P a x m first way) made mid p

  -- one way after another, of which other things were known
  pub within_both : (P Q R : DiskState → Type 0) (a b c : D) → ((s : DiskState) → P s → R s)
      → ((s : DiskState) → Q s → R s)
      → Within state makes P a b → Within state makes Q b c → Within state makes R a c
  within_both P Q R a b c f g first second = within_more R a b c (within_weaker P R a b f first)
      (within_weaker Q R b c g second)

  -- one call alone
  pub within_call : (P : DiskState → Type 0) (a b : D) (call : DiskCall) → P (state a)
      → makes a call b → P (during (state a) call) → P (state b) → Within state makes P a b
  within_call P a b call start made mid end = Then a a b call (Still a start) made mid end
