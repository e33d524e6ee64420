-- What is asked for, with a name for its block.
use Rattle.std.specs.Prelude.{ℕ, Bool, false, List}
use Rattle.std.specs.Borrow.{Bor}
use Rattle.answers.specs.declared.requests.BlockRequest.{BlockRequest}
use Rattle.answers.specs.declared.requests.BlockRequest.TheVariants.{Block, Cut, Ranges}
use Rattle.command_line.specs.declared.asked.Asked.{Asked}
use Rattle.command_line.specs.declared.asked.Asked.TheVariants.{Analyze, Append, Blocks, Checkpoint, Dump, Inspect, Live, OfBlocks, OfLog, Rescue, Unpack}

-- a name is to be made for its block, or for the first of its blocks
abbrev pub lacks_name : Asked → Bool
lacks_name (OfBlocks (Cut request)) = request.is_made
lacks_name (OfBlocks (Ranges dir form options)) = false
lacks_name (OfBlocks (Block path)) = false
lacks_name (Blocks request) = request.is_made
lacks_name (Rescue request) = request.is_made
lacks_name (OfLog request) = false
lacks_name (Inspect request) = false
lacks_name (Analyze request) = false
lacks_name (Dump request) = false
lacks_name (Append request) = false
lacks_name (Live request) = false
lacks_name (Checkpoint request) = false
lacks_name (Unpack request) = false

abbrev pub named_block : Bor (List ℕ) → BlockRequest → BlockRequest
named_block name (Cut request) = Cut (record request { ulid = name })
named_block name (Ranges dir form options) = Ranges dir form options
named_block name (Block path) = Block path

-- the same, with this name for its block, or for the first of its blocks
abbrev pub named : Bor (List ℕ) → Asked → Asked
named name (OfBlocks request) = OfBlocks (named_block name request)
named name (Blocks request) = Blocks (record request { ulid = name })
named name (Rescue request) = Rescue (record request { ulid = name })
named name (OfLog request) = OfLog request
named name (Inspect request) = Inspect request
named name (Analyze request) = Analyze request
named name (Dump request) = Dump request
named name (Append request) = Append request
named name (Live request) = Live request
named name (Checkpoint request) = Checkpoint request
named name (Unpack request) = Unpack request
