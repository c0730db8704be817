-- Base factors worked out from the definition: what the Rust of craft_context.rs answers.
-- Assumes nothing.
use Rattle.std.specs.Prelude.{◌≡◌, true, false, refl}
use Rattle.std.specs.Float.{binary64}
use Rattle.std.specs.Float.Ieee.{of_int, to_unsigned, add, mul, div}
use Rattle.laws.specs.Floats.{hundredths}
use Rattle.craft_context.specs.Factor.{base_of, factor_of}

progress : factor_of 4041 130 2 100 false ≡ 312
unfolding of_int to_unsigned add mul div
progress = refl

quality : factor_of 3987 115 35 70 true ≡ 267
unfolding of_int to_unsigned add mul div
quality = refl

most : factor_of 10000 1 35 200 true ≡ 200070
unfolding of_int to_unsigned add mul div
most = refl

least : factor_of 0 1000 2 0 true ≡ 0
unfolding of_int to_unsigned add mul div
least = refl

-- without the roundings it is (3020 * 10 / 150 + 2) * 90 / 100, which is 183
rounded : factor_of 3020 150 2 90 true ≡ 182
unfolding of_int to_unsigned add mul div
rounded = refl

-- the product's rounding decides: 90 / 100 is rounded down, so 110 times it is 98.999997.., and that is rounded up to 99 before it is truncated
product : factor_of 1080 100 2 90 true ≡ 99
unfolding of_int to_unsigned add mul div
product = refl

-- without that rounding (binary64 holds the whole product) it is truncated to 98
product_whole : to_unsigned 32 (mul binary64 (base_of 1080 100 2) (hundredths 90)) ≡ 98
unfolding of_int to_unsigned add mul div
product_whole = refl
