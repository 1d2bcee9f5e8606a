use Rattle.std.proofs.Common.{◌≡◌, ◌<◌, [], drop, IfSome, None}
use Rattle.blocks.specs.Hex.{hex_bytes}
use Rattle.blocks.proofs.hex.from_hex.Given as goal

abbrev pub invariant-loop-byte : goal.invariant-loop-byte
invariant-loop-byte l = (hex_bytes (drop l.byte-index l.text) l.bytes.items l.high ≡ hex_bytes l.text [] None) × IfSome l.high (λ h. h < 16)
