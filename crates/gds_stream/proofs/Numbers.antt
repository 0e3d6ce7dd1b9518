-- A number that was written as bytes is read again.
use Rattle.std.proofs.Common.{◌≡◌, ℤ, ap, ◌∙◌}
use Rattle.std.specs.Prelude.{FitsSigned}
use Rattle.std.specs.Int.{w16, w32, cast_unsigned, cast_signed}
use Rattle.std.proofs.Math.Facts.{Fits-of_z}
use Rattle.std.proofs.lemmas.Int.{to_z-of_z}
use Rattle.std.proofs.lemmas.Nat.{from_be_bytes-to_be_bytes_2, from_be_bytes-to_be_bytes_4}
use Rattle.gds_stream.specs.Contents.{two_bytes, four_bytes}
use Rattle.gds_stream.specs.Written.{two_of, four_of}

pub two_back : (z : ℤ) → FitsSigned w16 z → two_bytes (two_of z) ≡ z
two_back z fits = ap (cast_signed w16) (from_be_bytes-to_be_bytes_2 (cast_unsigned w16 z) (Fits-of_z {w = w16} {z = z} fits).fits) ∙ to_z-of_z w16 z fits

pub four_back : (z : ℤ) → FitsSigned w32 z → four_bytes (four_of z) ≡ z
four_back z fits = ap (cast_signed w32) (from_be_bytes-to_be_bytes_4 (cast_unsigned w32 z) (Fits-of_z {w = w32} {z = z} fits).fits) ∙ to_z-of_z w32 z fits
