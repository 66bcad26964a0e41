-- How a name stands in an event: at the head of 255 bytes, with zeros behind it.
use Rattle.std.specs.Prelude.{◌≡◌, ℕ, ◌-◌, List, ◌++◌, length, replicate, take, IsTrue}
use Rattle.std.proofs.Common.{sym}
use Rattle.ov_base.specs.Names.{is_name}
use Rattle.ov_base.specs.declared.event_name.EventName.TheInside.{Inside}

-- the bytes, filled up with zeros to 255
abbrev pub padded : List ℕ → List ℕ
padded bytes = bytes ++ replicate (255 - length bytes) 0

-- the buffer is the name, padded
pub record IsStored (a : Inside) : Type 0 where
  pub name : IsTrue (is_name (take a.len a.bytes))
  pub padding : a.bytes ≡ padded (take a.len a.bytes)
  pub whole : length (take a.len a.bytes) ≡ a.len

-- the fields come back from the bytes of the name
pub stored-back : (a : Inside) → IsStored a → record { len = length (take a.len a.bytes); bytes = padded (take a.len a.bytes) } ≡ a
stored-back a h = λ i. record { len = h.whole i; bytes = sym h.padding i }
