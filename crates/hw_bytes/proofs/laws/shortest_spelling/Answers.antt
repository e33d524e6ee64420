use Rattle.hw_bytes.proofs.Fixed.{fixed_shortest}
use Rattle.hw_bytes.proofs.Shortest.{uvarint_shortest, varint_shortest, text_shortest}
use Rattle.hw_bytes.proofs.laws.shortest_spelling.Goals as goal

pub returns : goal.returns
returns c = record { fixed = fixed_shortest; uvarint = uvarint_shortest; varint = varint_shortest; text = text_shortest }
