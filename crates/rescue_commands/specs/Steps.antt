-- Words of private functions: the blocks of a head.
use Rattle.std.specs.Prelude.{◌≡◌, ◌⊎◌, ℕ, ℤ, IsTrue, List, [], ◌∷◌}
use Rattle.std.specs.List.{AllZip}
use Rattle.block_files.specs.Ulids.{IsUlid}
use Rattle.block_files.specs.declared.encoding.Encoding.TheVariants.{Xor}
use Rattle.block_read.specs.declared.block.Block.{Block}
use Rattle.block_read.specs.Blocks.{IsBlockOf}
use Rattle.hw_bytes.specs.Sums.{Text}
use Rattle.head_column.specs.declared.items.Run.{Run}
use Rattle.head_column.specs.Hours.{IsEdge, is_in_hour}
use Rattle.head_column.specs.Runs.{spans}
use Rattle.head_core.specs.Content.{Content}
use Rattle.hour_rows.specs.Rows.{rows_of}
use Rattle.store.specs.Calls.{Call}
use Rattle.store.specs.Found.{Found}
use Rattle.block_commands.specs.Folders.{WritesBlock}
use Rattle.rescue_commands.specs.Rescues.{AreBounds, AreHours, GivesUpBlock, HaveBlocks, least_time}
use Rattle.rescue_commands.specs.declared.cutting.NamedBlock.{NamedBlock}

-- this is the block of an hour of a head with this content, with chunks that a server opens, under some ULID
abbrev pub IsBlockOfHead : Content → ℤ → Text → Block → Type 0
IsBlockOfHead content hour name block = IsUlid name × IsBlockOf Xor block (record { ulid = name; hour = hour; rows = rows_of hour content })

-- these times have no hour in part, but for the edges of time
abbrev pub AreWhole : Run → Type 0
AreWhole times = (k t u : ℤ) → (IsEdge k → ⊥) → IsTrue (is_in_hour k t) → IsTrue (spans times t) → IsTrue (is_in_hour k u) → IsTrue (spans times u)

-- the last of these numbers, or this one
abbrev pub last_or : ℤ → List ℤ → ℤ
last_or d [] = d
last_or d (x ∷ xs) = last_or x xs

-- bounds of passes, of which this is the last
abbrev pub AreBoundsUpTo : List ℤ → ℤ → Type 0
AreBoundsUpTo bounds last = AreBounds least_time bounds × (last_or least_time bounds ≡ last)

-- these are the blocks of hours of a head with this content, in their order
abbrev pub AreBlocksOf : Content → List ℤ → List NamedBlock → Type 0
AreBlocksOf content hours blocks = AllZip (λ (hour : ℤ) (named : NamedBlock). (named.hour ≡ hour) × IsBlockOfHead content hour named.ulid named.block) hours blocks

-- nothing was written, or a block of the hour was begun and given up
abbrev pub LeavesHour : {S : Type 0} → (S → List Call → S → Type 0) → (S → List ℕ → Found → Type 0) → List ℕ → Content → S → ℤ → S → Type 0
LeavesHour did holds out content old hour new = (new ≡ old) ⊎ GivesUpBlock did holds out (IsBlockOfHead content) old hour new

-- nothing was written, or the block was begun and given up
abbrev pub LeavesBlock : {S : Type 0} → (S → List Call → S → Type 0) → (S → List ℕ → Found → Type 0) → List ℕ → S → NamedBlock → S → Type 0
LeavesBlock did holds out old named new = (new ≡ old) ⊎ WritesBlock did holds old out named.ulid named.block ⊥ new

-- Hour by hour, the blocks of a head were written in a directory; or the call failed before anything was written.
abbrev pub WritesHead : {S : Type 0} → (S → List Call → S → Type 0) → (S → List ℕ → Found → Type 0) → List ℕ → Content → S → Type 0 → S → Type 0
WritesHead did holds out content old WentWell new =
    ((new ≡ old) × (WentWell → ⊥)) ⊎ ((hours : List ℤ) × AreHours content hours × HaveBlocks did holds out (IsBlockOfHead content) old hours WentWell new)
