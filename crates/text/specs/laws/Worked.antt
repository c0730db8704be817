-- Worked cases: what the definitions compute to.
-- Assumes nothing.
use Rattle.std.specs.Prelude.{◌≡◌, refl, pos, negsuc}
use Rattle.text.specs.Bytes.{bytes}
use Rattle.text.specs.Decimal.{decimal_of, signed_of, right_of}
use Rattle.text.specs.Hex.{hex_of}

pub decimals : (decimal_of 0 ≡ bytes "0") × (decimal_of 10 ≡ bytes "10") × (decimal_of 4294967295 ≡ bytes "4294967295")
unfolding decimal_of
decimals = (refl, refl, refl)

pub signeds : (signed_of (pos 127) ≡ bytes "127") × (signed_of (negsuc 127) ≡ bytes "-128")
unfolding decimal_of signed_of
signeds = (refl, refl)

pub alignments : (right_of 5 (bytes "42") ≡ bytes "   42") × (right_of 2 (bytes "100") ≡ bytes "100")
unfolding right_of
alignments = (refl, refl)

pub hexadecimals : (hex_of 0 ≡ bytes "00000000") × (hex_of 0xdeadbeef ≡ bytes "DEADBEEF")
unfolding hex_of
hexadecimals = (refl, refl)
