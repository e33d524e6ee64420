use Rattle.hw_bytes.proofs.Division.{crc32c_fits}
use Rattle.hw_bytes.proofs.laws.checksum_fits.Goals as goal

pub returns : goal.returns
returns c = crc32c_fits
