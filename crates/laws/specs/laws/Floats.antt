-- The bits by which the code writes a number are the number.
-- Assumes nothing.
use Rattle.std.specs.Prelude.{◌≡◌, refl}
use Rattle.std.specs.Float.{binary32}
use Rattle.std.specs.Float.Ieee.{of_bits, of_int, div}
use Rattle.laws.specs.Floats.{float, hundredths}

pub one_bits : of_bits binary32 0x3f80_0000 ≡ float 1
unfolding of_bits of_int
one_bits = refl

pub hundred_bits : of_bits binary32 0x42c8_0000 ≡ float 100
unfolding of_bits of_int
hundred_bits = refl

pub twentieth_bits : of_bits binary32 0x3d4c_cccd ≡ hundredths 5
unfolding of_bits of_int div
twentieth_bits = refl

pub fifth_bits : of_bits binary32 0x3e4c_cccd ≡ hundredths 20
unfolding of_bits of_int div
fifth_bits = refl

pub sixty_five_bits : of_bits binary32 0x3f26_6666 ≡ hundredths 65
unfolding of_bits of_int div
sixty_five_bits = refl
