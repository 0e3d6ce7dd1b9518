-- That what a slice of bytes holds are bytes.
use Rattle.std.proofs.Common.{ℕ, ◌<◌, List, get_or, All, Fits, w8}
use Rattle.std.proofs.lemmas.List.Elements.{All-from_get_or}

pub are_bytes : (bytes : List ℕ) → ((i : ℕ) → Fits w8 (get_or bytes i 0)) → All (λ b. b < 256) bytes
are_bytes bytes fits = All-from_get_or (λ b. b < 256) bytes 0 (λ i below. (fits i).fits)
