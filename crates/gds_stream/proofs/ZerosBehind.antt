-- Zeros behind a stream.
use Rattle.std.proofs.Common.{◌≡◌, ◌≢◌, ℕ, suc, ◌<◌, List, ◌∷◌, ◌++◌, length, get_or, take, drop, replicate, sym, ap, ◌∙◌, arith}
use Rattle.std.proofs.lemmas.List.{take-append-drop}
use Rattle.std.proofs.Math.Seq.{drop-cons}
use Rattle.gds_stream.specs.Gives.{IsBehindZeros}

-- another byte
pub zeros_stop : (bytes : List ℕ) (i byte : ℕ) → i < length bytes → get_or bytes i 0 ≡ byte → byte ≢ 0 → take i bytes ≡ replicate i 0 → IsBehindZeros bytes i byte
zeros_stop bytes i byte below is other so_far = record {
  more = drop (suc i) bytes;
  stands =
      sym (take-append-drop i bytes)
      ∙ ap (λ (l : List ℕ). l ++ drop i bytes) so_far
      ∙ ap (λ (l : List ℕ). replicate i 0 ++ l) (drop-cons bytes i 0 below ∙ ap (λ (b : ℕ). b ∷ drop (suc i) bytes) is);
  some = omega arith;
}
