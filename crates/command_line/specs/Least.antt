-- What is asked for, with another least valid time.
use Rattle.std.specs.Prelude.{ℤ}
use Rattle.head_replay.specs.declared.options.Options.{Options}
use Rattle.answers.specs.declared.requests.BlockRequest.{BlockRequest}
use Rattle.answers.specs.declared.requests.BlockRequest.TheVariants.{Block, Cut, Ranges}
use Rattle.answers.specs.declared.requests.Request.{Request}
use Rattle.answers.specs.declared.requests.Request.TheVariants.{Records, Replay, Series}
use Rattle.command_line.specs.declared.asked.Asked.{Asked}
use Rattle.command_line.specs.declared.asked.Asked.TheVariants.{Analyze, Append, Blocks, Checkpoint, Dump, Inspect, Live, OfBlocks, OfLog, Rescue, Unpack}

abbrev pub least_options : ℤ → Options → Options
least_options least options = record options { min_valid = least }

abbrev pub least_log : ℤ → Request → Request
least_log least (Replay dir form options) = Replay dir form (least_options least options)
least_log least (Records dir form) = Records dir form
least_log least (Series dir form pair options) = Series dir form pair (least_options least options)

abbrev pub least_blocks : ℤ → BlockRequest → BlockRequest
least_blocks least (Ranges dir form options) = Ranges dir form (least_options least options)
least_blocks least (Cut request) = Cut (record request { options = least_options least request.options })
least_blocks least (Block path) = Block path

-- the same, with this least valid time where it has one
abbrev pub from_least : ℤ → Asked → Asked
from_least least (OfLog request) = OfLog (least_log least request)
from_least least (Inspect request) = Inspect (record request { min_valid = least })
from_least least (Analyze request) = Analyze (record request { options = least_options least request.options })
from_least least (Dump request) = Dump (record request { options = least_options least request.options })
from_least least (OfBlocks request) = OfBlocks (least_blocks least request)
from_least least (Blocks request) = Blocks (record request { options = least_options least request.options })
from_least least (Rescue request) = Rescue (record request { options = least_options least request.options })
from_least least (Append request) = Append (record request { options = least_options least request.options })
from_least least (Live request) = Live (record request { options = least_options least request.options })
from_least least (Checkpoint request) = Checkpoint (record request { min_valid = least })
from_least least (Unpack request) = Unpack request
