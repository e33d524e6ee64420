-- Steps of reading, which stop at the first fault.
use Rattle.std.specs.Prelude.{◌≡◌, ◌==◌, ℕ, List, ◌++◌, length, map, Bool, true, false, Option, Some, None, Result, Ok, Err}
use Rattle.std.specs.Borrow.{Bor}
use Rattle.index_text.specs.declared.fault.ReadFault.{ReadFault}
use Rattle.index_text.specs.declared.fault.ReadFault.TheVariants.{BadSection, Memory}

-- the next step, with the value of this one
infixl 10 ◌>>=◌
abbrev pub ◌>>=◌ : {A B : Type 0} → Result A ReadFault → (A → Result B ReadFault) → Result B ReadFault
(Ok x) >>= f = f x
(Err e) >>= f = Err e

-- reading ends with this fault, or the fault is `Memory`
abbrev pub Fails : {Y : Type 0} → ReadFault → Result Y ReadFault → Type 0
Fails Memory read = Unit {0}
Fails e read = read ≡ Err e

-- A function returned what reading gives, with its value seen by `view`, or it ran out of memory.
abbrev pub Gives : {X Y : Type 0} → (X → Y) → Result X ReadFault → Result Y ReadFault → Type 0
Gives view (Ok x) read = read ≡ Ok (view x)
Gives view (Err e) read = Fails e read

-- the value, or `BadSection` if there is none
abbrev pub or_bad : {X : Type 0} → Option X → Result X ReadFault
or_bad None = Err BadSection
or_bad (Some x) = Ok x

-- the fault, unless the test holds
abbrev pub must : Bool → ReadFault → Result (Unit {0}) ReadFault
must true e = Ok tt
must false e = Err e

-- the contents of slices
abbrev pub nows : List (Bor (List ℕ)) → List (List ℕ)
nows texts = map (λ (t : Bor (List ℕ)). t.now) texts

-- the elements that were read before, with those that are read now
abbrev pub with_front : {X : Type 0} → List X → Result (List X × List ℕ) ReadFault → Result (List X × List ℕ) ReadFault
with_front front read = read >>= λ x. Ok (front ++ x.0, x.1)

-- the bytes after a field, without its value
abbrev pub rest_of : {X : Type 0} → Result (X × List ℕ) ReadFault → Result (List ℕ) ReadFault
rest_of read = read >>= λ x. Ok x.1

-- the fault, if there is one
abbrev pub done_of : {X : Type 0} → Result X ReadFault → Result (Unit {0}) ReadFault
done_of read = read >>= λ x. Ok tt

-- `BadSection`, unless no bytes are left
abbrev pub nothing_left : List ℕ → Result (Unit {0}) ReadFault
nothing_left bytes = must (length bytes == 0) BadSection
