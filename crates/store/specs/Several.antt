-- Files that are read side by side.
use Rattle.std.specs.Prelude.{◌≡◌, ◌⊎◌, ◌<◌, ℕ, List, ◌∷◌, ◌++◌, Result, Ok, Err, Vec, String, length, map, string_bytes}
use Rattle.std.specs.List.{HoldsAt}
use Rattle.std.specs.Global.{Global}
use Rattle.store.specs.declared.store.StoreFault.{StoreFault}
use Rattle.store.specs.declared.store.StoreFault.TheVariants.{OutOfMemory}

-- one of two readers gave this for the path
abbrev pub Gave : (List ℕ → Result (Vec ℕ Global) StoreFault → Type 0) → (List ℕ → Result (Vec ℕ Global) StoreFault → Type 0) → List ℕ → Result (Vec ℕ Global) StoreFault → Type 0
Gave here there path file = here path file ⊎ there path file

-- of these files, one after the other, the one at the place is the first that was not read, and this is why; or memory ran out there
abbrev pub StopsAt : List (Result (Vec ℕ Global) StoreFault) → ℕ → StoreFault → Type 0
StopsAt files place fault = (read : List (Vec ℕ Global)) × (rest : List (Result (Vec ℕ Global) StoreFault)) × (place ≡ length read)
    × ((files ≡ map Ok read ++ Err fault ∷ rest) ⊎ ((bytes : Vec ℕ Global) × (files ≡ map Ok read ++ Ok bytes ∷ rest) × (fault ≡ OutOfMemory)))

-- the file at the path of this place was not read, for which this was given; or memory ran out there
abbrev pub IsRefused : (List ℕ → Result (Vec ℕ Global) StoreFault → Type 0) → List (String Global) → ℕ → StoreFault → Type 0
IsRefused gave paths place fault = (place < length paths) × ((fault ≡ OutOfMemory) ⊎ HoldsAt (λ path. gave (string_bytes path) (Err fault)) paths place)
