-- Lines of jobs and of replies: two steps of one are one.
use Rattle.std.proofs.Common.{◌≡◌, ℕ, zero, suc, ◌+◌, List, [], ◌∷◌, ◌++◌, length, sym, ap, ◌∙◌}
use Rattle.std.proofs.Common.{arith, refl, Bool, true}
use Rattle.std.proofs.Common.{Option, Some, None, Result, Ok, Err}
use Rattle.std.specs.Prelude.{if◌then◌else◌, is_some, IfOk, slice_get}
use Rattle.queue_looks.specs.declared.fault.HostFault.{HostFault}
use Rattle.std.specs.Option.{option_to_list}
use Rattle.std.proofs.lemmas.List.{append_assoc, append-nil, length-append}
use Rattle.mmio_transport.specs.Job.{Job, Done}
use Rattle.mmio_transport.specs.declared.fault.DeviceFault.{DeviceFault}
use Rattle.mmio_transport.specs.declared.fault.DeviceFault.TheVariants.{Refused, NoMemory}
use Rattle.mmio_transport.specs.declared.fault.DeviceFault.TheVariants.{NeedsReset}
use Rattle.rpmb_book.specs.Book.{BookView, due_of}
use Rattle.workers.specs.declared.backlog.Handed.{Handed}
use Rattle.workers.specs.declared.backlog.Handed.TheVariants.{Answered}
use Rattle.workers.specs.Turns.{Flows, Takes, Collects, answered_of}

flows_on : {A : Type 0} (a b c : List A) (m n p q k l : ℕ) → Flows a m n b → Flows b p q c
    → k ≡ m + p → l ≡ n + q → Flows a k l c
flows_on a b c m n p q k l f g came went = record {
  added = f.added ++ g.added;
  gone = f.gone ++ g.gone;
  all = sym (append_assoc a f.added g.added) ∙ ap (λ xs. xs ++ g.added) f.all
      ∙ append_assoc f.gone b g.added
      ∙ ap (λ xs. f.gone ++ xs) g.all ∙ sym (append_assoc f.gone g.gone c);
  as_many_came = omega (arith, length-append f.added g.added, f.as_many_came, g.as_many_came, came);
  as_many_went = omega (arith, length-append f.gone g.gone, f.as_many_went, g.as_many_went, went);
}

-- more came behind the line
pub flows_in : {A : Type 0} (a b c : List A) (m p k : ℕ) → Flows a m 0 b → Flows b p 0 c → k ≡ m + p
    → Flows a k 0 c
flows_in a b c m p k f g came = flows_on a b c m 0 p 0 k 0 f g came (omega arith)

-- one more came, if one did
pub flows_one_more : {A : Type 0} (a b c : List A) (n : ℕ) (is : Bool) → is ≡ true → Flows a n 0 b
    → Flows b (if is then 1 else 0) 0 c → Flows a (n + 1) 0 c
flows_one_more a b c n is one f g = flows_in a b c n (if is then 1 else 0) (n + 1) f g (rw one refl)

-- more went from its front
pub flows_out : {A : Type 0} (a b c : List A) (n q l : ℕ) → Flows a 0 n b → Flows b 0 q c
    → l ≡ n + q → Flows a 0 l c
flows_out a b c n q l f g went = flows_on a b c 0 n 0 q 0 l f g (omega arith) went

-- some came, and then some went
pub flows_through : {A : Type 0} (a b c : List A) (m q : ℕ) → Flows a m 0 b → Flows b 0 q c
    → Flows a m q c
flows_through a b c m q f g = flows_on a b c m 0 0 q m q f g (omega arith) (omega arith)

-- some went, and then some came
pub flows_past : {A : Type 0} (a b c : List A) (n p : ℕ) → Flows a 0 n b → Flows b p 0 c
    → Flows a p n c
flows_past a b c n p f g = flows_on a b c 0 n p 0 p n f g (omega arith) (omega arith)

pub flows_none : {A : Type 0} (a : List A) → Flows a 0 0 a
flows_none a = record {
  added = [];
  gone = [];
  all = append-nil a;
  as_many_came = refl;
  as_many_went = refl;
}

-- one came, or none
pub flows_one : {A : Type 0} (a : List A) (x : A) → Flows a 1 0 (a ++ x ∷ [])
flows_one a x = record {
  added = x ∷ [];
  gone = [];
  all = refl;
  as_many_came = refl;
  as_many_went =
      refl;
}

-- the first went
pub flows_first : {A : Type 0} (a : List A) (x : A) (b : List A) → a ≡ x ∷ b → Flows a 0 1 b
flows_first a x b is = record {
  added = [];
  gone = x ∷ [];
  all = append-nil a ∙ is;
  as_many_came =
      refl;
  as_many_went = refl;
}

-- the line stays
pub flows_same : {A : Type 0} (a b : List A) → b ≡ a → Flows a 0 0 b
flows_same a b is = rw is (flows_none a)

-- between lines that are the same
pub flows_between : {A : Type 0} {a b c d : List A} {m n : ℕ} → Flows b m n c → b ≡ a → d ≡ c
    → Flows a m n d
flows_between {A} {a} {b} {c} {d} {m} {n} f from to = rw (← from, to) f

-- what a pop gave waits behind the others
pub flows_popped : (old : List Job) (answer : Result (Option Job) DeviceFault) (popped : Bool)
    (new : List Job)
    → Takes old answer popped new → Flows old (if popped then 1 else 0) 0 new
flows_popped old (Ok (Some job)) popped new t = rw (t.0, t.1) (flows_one old job)
flows_popped old (Ok None) popped new t = rw t.0 (flows_same old new t.1)
flows_popped old (Err (Refused fault)) popped new t = rw t.0 (flows_same old new t.1)
flows_popped old (Err NeedsReset) popped new t = rw t.0 (flows_same old new t.1)
flows_popped old (Err NoMemory) popped new t = absurd t

by_due : (old : List Done) (due : Option Done) → Flows old (if is_some due then 1 else 0) 0 (old
    ++ option_to_list due)
by_due old None = flows_same old (old ++ []) (append-nil old)
by_due old (Some done) = flows_one old done

-- what left the book waits behind the others
pub flows_collected : (b : BookView) (guest : ℕ) (old : List Done) (collected : Bool)
    (b' : BookView) (new : List Done)
    → Collects b guest old collected b' new → Flows old (if collected then 1 else 0) 0 new
flows_collected b guest old collected b' new c = rw (c.is, c.replies) (by_due old (due_of b guest))

-- the same of answers, which may be faults, and of a line that was given room
pub popped_in : (start old : List Job) (answer : Result (Option Job) DeviceFault)
    (r : Result Bool HostFault) (new : List Job)
    → old ≡ start → IfOk r (λ is. Takes old answer is new)
    → IfOk r (λ is. Flows start (if is then 1 else 0) 0 new)
popped_in start old answer (Ok is) new same t = rw (sym same) (flows_popped old answer is new t)
popped_in start old answer (Err f) new same t = t

-- what was pushed stands at the end
pub last_pushed : {A : Type 0} (xs : List A) (x r : A) (n : ℕ) → n ≡ length xs
    → slice_get (xs ++ x ∷ []) n ≡ Some r → r ≡ x
last_pushed [] x r n is there = cc
last_pushed (y ∷ ys) x r zero is there = absurd (omega (arith, is))
last_pushed (y ∷ ys) x r (suc n) is there = last_pushed ys x r n (omega (arith, is)) there

-- one more job was answered
pub flows_answered : (h : Handed) (a b c : List Job) (n : ℕ) → h ≡ Answered → Flows a 0 n b
    → Flows b 0 (answered_of h) c
    → Flows a 0 (n + 1) c
flows_answered h a b c n is f g = flows_out a b c n (answered_of h) (n + 1) f g (rw is refl)

-- none was
pub flows_unanswered : (h : Handed) (a b c : List Job) (n : ℕ) → answered_of h ≡ 0 → Flows a 0 n b
    → Flows b 0 (answered_of h) c → Flows a 0 n c
flows_unanswered h a b c n none f g = flows_out a b c n (answered_of h) n f g (omega (arith, none))

pub counts_answered : (h : Handed) (a b c n : ℕ) → h ≡ Answered → b ≡ a + n → c ≡ b + answered_of h
    → c ≡ a + (n + 1)
counts_answered h a b c n is before now = let one : answered_of h ≡ 1 = rw is refl in
    omega (arith, before, now, one)
