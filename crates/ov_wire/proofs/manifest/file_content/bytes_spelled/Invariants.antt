use Rattle.std.proofs.Common.{◌≡◌, ◌*◌, ◌++◌, List, ℕ, drop, option_map}
use Rattle.ov_wire.specs.ManifestEntries.{hex_bytes}
use Rattle.ov_wire.proofs.manifest.file_content.bytes_spelled.Given as goal

abbrev pub invariant-loop-index : goal.invariant-loop-index
invariant-loop-index l = hex_bytes l.digits ≡ option_map (λ (rest : List ℕ). l.bytes.items ++ rest) (hex_bytes (drop (2 * l.index) l.digits))
