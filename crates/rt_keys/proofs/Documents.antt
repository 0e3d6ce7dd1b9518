-- Bytes are one document at most.
use Rattle.std.proofs.Common.{◌≡◌, ℕ, List}
use Rattle.toml.specs.Data.{Members}
use Rattle.rt_keys.specs.Document.{IsDocument}

pub same_document : (bytes : List ℕ) (a b : Members) → IsDocument bytes a → IsDocument bytes b → a ≡ b
same_document bytes a b x y = cc
