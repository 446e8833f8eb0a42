-- Lines of guests that are written one after another, and what a script whose guests are served
-- comes to.
use Rattle.std.proofs.Common.{◌≡◌, ◌∙◌, ℕ, zero, suc, ◌+◌, ◌<◌, List, [], ◌∷◌, ◌++◌, Option, Some}
use Rattle.std.proofs.Common.{Result, Ok, Err, take, length, map, get_or, refl, ap, subst, sym}
use Rattle.std.proofs.Common.{arith, inr}
use Rattle.commands.proofs.Common.{Appends-nil, Appends-trans, Keeps-refl, append_assoc, append-nil}
use Rattle.commands.proofs.Common.{length-map, slice_get_read, Appends, IfErr, slice_get}
use Rattle.commands.proofs.Common.{slice_index_or, true, GuestConfig, DiskState, capacities_of}
use Rattle.commands.proofs.Common.{Said, served_line_of, lines_of, Line, AnswersFault, OpenFault}
use Rattle.commands.proofs.Common.{HostFault, Answer, HaveAll, chain_orders, Order, Ends}
use Rattle.commands.proofs.Common.{IsOfReading, IsOfTelling, serving, fault_of, fault_of_image}
use Rattle.commands.proofs.Common.{PrintsEach, RanOf, answer_line, answer_lines, asked_of, asks}
use Rattle.commands.proofs.Common.{chains_of, guests_lines, Fault}
use Rattle.std.proofs.lemmas.List.{get_or-map}
use Rattle.script.specs.Line.{said}
use Rattle.recovery.specs.declared.fault.OpenFault.TheVariants as image
use Rattle.queue_looks.specs.declared.fault.HostFault.TheVariants as host
use Rattle.guest_driver.specs.declared.config.DriverConfig.{DriverConfig}
use Rattle.workers.specs.Driving.{Ran}
use Rattle.workers.specs.declared.driver.DriverEnd.{DriverEnd}
use Rattle.commands.specs.Ending.{IsServable}
use Rattle.commands.specs.Serving.{IsUnservedAt, ServePrints, ServedPrint}
use Rattle.commands.specs.declared.fault.Fault.TheVariants as fault
use Rattle.commands.proofs.Cases.{reading_cases, telling_cases}
use Rattle.commands.proofs.Handed.{as_many_chains}
use Rattle.commands.proofs.Printing.{says_same}

answers_take : (guest : ℕ) (xs : List Answer) (i : ℕ) (x : Answer) → slice_get xs i ≡ Some x
    → answer_lines guest (take (suc i) xs) ≡ answer_lines guest (take i xs) ++ answer_line guest x
unfolding answer_lines
answers_take guest [] i x is = absurd (cc)
answers_take guest (y ∷ xs) zero x is =
    let same : y ≡ x = cc in append-nil (answer_line guest y) ∙ ap (answer_line guest) same
answers_take guest (y ∷ xs) (suc i) x is =
    ap (λ t. answer_line guest y ++ t) (answers_take guest xs i x is)
    ∙ sym (append_assoc (answer_line guest y) (answer_lines guest (take i xs))
    (answer_line guest x))

pub no_answer : (start : Option (List ℕ)) (guest : ℕ) (xs : List Answer)
    → Appends start start (answer_lines guest (take 0 xs))
unfolding answer_lines
no_answer start guest xs = Appends-nil start

pub one_answer : (start now next : Option (List ℕ)) (guest : ℕ) (xs : List Answer) (i : ℕ)
    (x : Answer) → Appends start now (answer_lines guest (take i xs))
    → i < length xs → x ≡ get_or xs i x → Appends now next (answer_line guest x)
    → Appends start next (answer_lines guest (take (i + 1) xs))
one_answer start now next guest xs i x before inside at line =
    let same : i + 1 ≡ suc i = omega arith in
    let more = answers_take guest xs i x (slice_get_read xs (length xs) i x refl inside at) in
    rw same (subst (Appends start next) (sym more)
    (Appends-trans start now next (answer_lines guest (take i xs)) (answer_line guest x) before
    line))

guests_take : (n : ℕ) (xs : List DriverEnd) (i : ℕ) (x : DriverEnd) → slice_get xs i ≡ Some x
    → guests_lines n (map (λ e. e.answers.items) (take (suc i) xs))
    ≡ guests_lines n (map (λ e. e.answers.items) (take i xs))
    ++ answer_lines (n + i) x.answers.items
unfolding guests_lines
guests_take n [] i x is = absurd (cc)
guests_take n (y ∷ xs) zero x is =
    let same : y ≡ x = cc in
    let here : n ≡ n + 0 = omega arith in
    append-nil (answer_lines n y.answers.items) ∙ ap (λ e. answer_lines n e.answers.items) same
    ∙ ap (λ k. answer_lines k x.answers.items) here
guests_take n (y ∷ xs) (suc i) x is =
    let here : n + 1 + i ≡ n + suc i = omega arith in
    let more = guests_take (n + 1) xs i x is
    ∙ ap (λ k. guests_lines (n + 1) (map (λ e. e.answers.items) (take i xs))
    ++ answer_lines k x.answers.items) here in
    ap (λ t. answer_lines n y.answers.items ++ t) more
    ∙ sym (append_assoc (answer_lines n y.answers.items)
    (guests_lines (n + 1) (map (λ e. e.answers.items) (take i xs)))
    (answer_lines (n + suc i) x.answers.items))

pub no_guest : (start : Option (List ℕ)) (xs : List DriverEnd)
    → Appends start start (guests_lines 0 (map (λ e. e.answers.items) (take 0 xs)))
unfolding guests_lines
no_guest start xs = Appends-nil start

pub one_guest : (start now next : Option (List ℕ)) (xs : List DriverEnd) (i : ℕ) (x : DriverEnd)
    → Appends start now (guests_lines 0 (map (λ e. e.answers.items) (take i xs)))
    → i < length xs → x ≡ get_or xs i x → Appends now next (answer_lines i x.answers.items)
    → Appends start next (guests_lines 0 (map (λ e. e.answers.items) (take (i + 1) xs)))
one_guest start now next xs i x before inside at line =
    let same : i + 1 ≡ suc i = omega arith in
    let here : 0 + i ≡ i = omega arith in
    let more = guests_take 0 xs i x (slice_get_read xs (length xs) i x refl inside at)
    ∙ ap (λ k. guests_lines 0 (map (λ e. e.answers.items) (take i xs))
    ++ answer_lines k x.answers.items) here in
    rw same (subst (Appends start next) (sym more)
    (Appends-trans start now next (guests_lines 0 (map (λ e. e.answers.items) (take i xs)))
    (answer_lines i x.answers.items) before line))

pub take_all : {X : Type 0} (xs : List X) (n : ℕ) → n ≡ length xs → take n xs ≡ xs
take_all [] n is = rw is refl
take_all (x ∷ xs) zero is = absurd (omega (arith, is))
take_all (x ∷ xs) (suc n) is = ap (λ t. x ∷ t) (take_all xs n (omega (arith, is)))

-- What guests have answers to is what the lines offer of each.
pub told_each : (drivers : List DriverEnd) (configs : List DriverConfig)
    (scripts : List (List Order)) (lines : List Said) (n : ℕ)
    → length drivers ≡ n → length scripts ≡ n → length configs ≡ n
    → HaveAll drivers configs scripts
    → ((g : ℕ) → g < n → map (asks g) (slice_index_or scripts g []) ≡ asked_of g lines)
    → (g : ℕ) → g < n → length (get_or (map (λ e. e.answers.items) drivers) g [])
    ≡ chains_of g lines
told_each [] configs scripts lines n many as_many each_one all each g below =
    absurd (omega (arith, many, below))
told_each (d ∷ drivers) [] scripts lines n many as_many each_one all each g below =
    absurd (omega (arith, each_one, below))
told_each (d ∷ drivers) (c ∷ configs) scripts lines n many as_many each_one all each g below =
    let inside : g < length (d ∷ drivers) = omega (arith, many, below) in
    let here = get_or (d ∷ drivers) g d in
    let answered : length here.answers.items ≡ chain_orders (slice_index_or scripts g []) =
    (all g d c (omega (arith, as_many, below))).all in
    let shown : length (get_or (map (λ e. e.answers.items) (d ∷ drivers)) g [])
    ≡ length here.answers.items =
    ap length (get_or-map (λ (e : DriverEnd). e.answers.items) (d ∷ drivers) g d [] inside) in
    let offers = as_many_chains g (slice_index_or scripts g []) lines (each g below) in
    omega (arith, answered, shown, offers)

-- and the drivers ran just these
ran_each : (drivers : List DriverEnd) (configs : List DriverConfig) (scripts : List (List Order))
    (lines : List Said) (n : ℕ)
    → length drivers ≡ n → length scripts ≡ n → HaveAll drivers configs scripts
    → ((g : ℕ) → g < n → map (asks g) (slice_index_or scripts g []) ≡ asked_of g lines)
    → (g : ℕ) (c : DriverConfig) → g < n
    → RanOf g (get_or configs g c) lines (get_or (map (λ e. e.answers.items) drivers) g [])
ran_each [] configs scripts lines n many as_many all each g c below =
    absurd (omega (arith, many, below))
ran_each (d ∷ drivers) configs scripts lines n many as_many all each g c below =
    let inside : g < length (d ∷ drivers) = omega (arith, many, below) in
    record {
      script = slice_index_or scripts g [];
      asked = each g below;
      ran = subst (Ran g (slice_index_or configs g c) (slice_index_or scripts g []))
          (sym (get_or-map (λ (e : DriverEnd). e.answers.items) (d ∷ drivers) g d [] inside))
          (all g d c (omega (arith, as_many, below)));
    }

-- what they print where they end well
pub prints_each : (drivers : List DriverEnd) (configs : List DriverConfig)
    (scripts : List (List Order)) (lines : List Said) (n : ℕ) (start now : Option (List ℕ))
    → length drivers ≡ n → length scripts ≡ n → length configs ≡ n
    → HaveAll drivers configs scripts
    → ((g : ℕ) → g < n → map (asks g) (slice_index_or scripts g []) ≡ asked_of g lines)
    → Appends start now (guests_lines 0 (map (λ e. e.answers.items) drivers))
    → PrintsEach n configs lines start now
prints_each drivers configs scripts lines n start now many as_many each_one all each printed =
    record {
      answers = map (λ e. e.answers.items) drivers;
      many = length-map drivers (λ (e : DriverEnd). e.answers.items) ∙ many;
      ran = ran_each drivers configs scripts lines n many as_many all each;
      each = told_each drivers configs scripts lines n many as_many each_one all each;
      printed = printed;
    }

-- and where they don't
pub served_print : (n : ℕ) (configs : List DriverConfig) (lines : List Said)
    (start now : Option (List ℕ)) (r : Result (Unit {0}) Fault) → IfErr r IsOfTelling
    → (r ≡ Err fault.DiskFault → PrintsEach n configs lines start now)
    → IfErr r (λ f. ServedPrint n configs lines f start now)
served_print n configs lines start now (Ok done) of told = tt
served_print n configs lines start now (Err f) of told =
    telling_cases (λ e. (e ≡ fault.DiskFault → PrintsEach n configs lines start now)
    → ServedPrint n configs lines e start now) (λ t. inr (t refl)) (λ t. tt) (λ t. tt) f of (λ is.
    told (ap Err is))

-- Which faults end it once its lines are read: why the image isn't opened, what its threads come
-- to, or their telling.
abbrev pub EndsServe : List GuestConfig → DiskState → Fault → Type 0
EndsServe board old f = (script : List ℕ) (new : DiskState) → IsServable board script
    → Ends (serving script) board old new f

pub opening_serve : (board : List GuestConfig) (old : DiskState) (f : OpenFault)
    → (old.faithful ≡ true → AnswersFault (capacities_of board) old.len old.seen f)
    → EndsServe board old (fault_of_image f)
opening_serve board old image.NoMemory answers script new servable = tt
opening_serve board old image.DiskFault answers script new servable = servable
opening_serve board old image.NotFormatted answers script new servable = (servable, answers)
opening_serve board old image.OtherConfig answers script new servable = (servable, answers)

pub threads_serve : (board : List GuestConfig) (old : DiskState) (f : HostFault)
    → EndsServe board old (fault_of f)
threads_serve board old host.NoMemory script new servable = tt
threads_serve board old host.OutOfRange script new servable = servable
threads_serve board old host.Busy script new servable = servable
threads_serve board old host.HistoryFull script new servable = servable
threads_serve board old host.NoRoom script new servable = servable
threads_serve board old host.Foreign script new servable = servable

pub telling_serve : (board : List GuestConfig) (old : DiskState) (f : Fault) → IsOfTelling f
    → EndsServe board old f
telling_serve board old f of = telling_cases (EndsServe board old) (λ script new servable. servable)
    (λ script new servable. tt) (λ script new servable. servable) f of

pub serve_prints : (board : List GuestConfig) (configs : List DriverConfig) (script : List ℕ)
    (read : List Line) (start now : Option (List ℕ)) (r : Result (Unit {0}) Fault)
    → map (λ line. Some (said line)) read ≡ map (served_line_of (length board)) (lines_of script)
    → IfErr r (λ f. ServedPrint (length board) configs (map said read) f start now)
    → IfErr r (λ f. ServePrints board configs script f start now)
serve_prints board configs script read start now (Ok done) was prints = tt
serve_prints board configs script read start now (Err f) was prints = λ lines is.
    subst (λ x. ServedPrint (length board) configs x f start now)
    (sym (says_same lines read _ is was))
    prints

-- of a script that isn't read, nothing
pub unread_prints : (board : List GuestConfig) (configs : List DriverConfig) (script : List ℕ)
    (f : Fault) (start : Option (List ℕ)) → IsOfReading f
    → ServePrints board configs script f start start
unread_prints board configs script f start of =
    reading_cases (λ e. ServePrints board configs script e start start)
    (λ lines is. tt) (λ n lines is. Keeps-refl start) f of

pub unread_ends : (board : List GuestConfig) (script : List ℕ) (old new : DiskState) (f : Fault)
    → IsOfReading f → ((n : ℕ) → f ≡ fault.BadScript n → IsUnservedAt board script n)
    → Ends (serving script) board old new f
unread_ends board script old new f of bad =
    reading_cases (λ e. ((n : ℕ) → e ≡ fault.BadScript n → IsUnservedAt board script n)
    → Ends (serving script) board old new e) (λ bad. tt) (λ n bad. bad n refl) f of bad
