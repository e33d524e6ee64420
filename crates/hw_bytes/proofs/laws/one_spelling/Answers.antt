use Rattle.hw_bytes.proofs.Fixed.{fixed_code}
use Rattle.hw_bytes.proofs.Groups.{uvarint_code}
use Rattle.hw_bytes.proofs.Texts.{text_code}
use Rattle.hw_bytes.proofs.Varints.{varint_code}
use Rattle.hw_bytes.proofs.laws.one_spelling.Goals as goal

pub returns : goal.returns
returns c = record { fixed = fixed_code; uvarint = uvarint_code; varint = varint_code; text = text_code }
