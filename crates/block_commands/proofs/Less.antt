-- What was written is reported, also where less is known of whether all went well.
use Rattle.std.specs.Prelude.{ℕ, ◌≡◌, List}
use Rattle.std.proofs.Common.{inl, inr}
use Rattle.store.specs.Calls.{Call}
use Rattle.store.specs.Found.{Found}
use Rattle.answers.specs.declared.requests.BlockRequest.{BlockRequest}
use Rattle.answers.specs.declared.requests.BlockRequest.TheVariants as asked
use Rattle.answers.specs.declared.requests.CutRequest.{CutRequest}
use Rattle.block_read.specs.declared.block.Block.{Block}
use Rattle.new_files.proofs.Safety.{for_less}
use Rattle.answers.specs.Faults.{TellsDamage}
use Rattle.store.specs.Views.{View}
use Rattle.answers.specs.declared.fault.Fault.{Fault}
use Rattle.answers.specs.declared.fault.Status.TheVariants.{Damaged, Done}
use Rattle.answers.specs.declared.answer.Answer.{Answer}
use Rattle.answers.proofs.Answered.{nothing_told}
use Rattle.block_commands.specs.Printed.{Prints, Refuses}
use Rattle.block_commands.specs.Folders.{CarriesOut, Cuts, WritesBlock}

module _ {S : Type 0} (did : S → List Call → S → Type 0) (holds : S → List ℕ → Found → Type 0) (old new : S) (V W : Type 0) (less : V → W) where
  pub writes_less : (out name : List ℕ) (block : Block) → WritesBlock did holds old out name block W new → WritesBlock did holds old out name block V new
  writes_less out name block (inl (same, failed)) = inl (same, λ v. failed (less v))
  writes_less out name block (inr (free, safe)) = inr (free, for_less did old _ _ new V W less safe)

  cuts_less : (request : CutRequest) → Cuts did holds old request W new → Cuts did holds old request V new
  cuts_less request (inl (same, failed)) = inl (same, λ v. failed (less v))
  cuts_less request (inr (log, own, block, at, unhurt, is, wrote)) = inr (log, own, block, at, unhurt, is, writes_less _ _ block wrote)

  pub carries_less : (request : BlockRequest) → CarriesOut did holds old request W new → CarriesOut did holds old request V new
  carries_less (asked.Cut request) has = cuts_less request has
  carries_less (asked.Ranges dir form options) has = has
  carries_less (asked.Block path) has = has

-- an answer that neither went well nor tells damage
pub refused_prints : (view : View) (request : BlockRequest) (answer : Answer) (fault : Fault) → Refuses request fault → (answer.status ≡ Done → ⊥) → (answer.status ≡ Damaged → TellsDamage fault) → Prints view request answer
refused_prints view (asked.Ranges dir form options) answer fault refuses fails damaged = nothing_told _ answer fails (λ bad. refuses (damaged bad))
refused_prints view (asked.Cut request) answer fault refuses fails damaged = tt
refused_prints view (asked.Block path) answer fault refuses fails damaged = tt
