-- The normal form of a proper program is proper, valid too, and so its file is accepted.
use Prim.Native.Nat.{ℕ}
use mathlib.Core.List.{List}
use Rattle.program.specs.Program.{Program}
use Rattle.program.specs.Reading.{Accepts}
use Rattle.program.specs.Encode.{encode, Bytes, Proper}
use Rattle.program.proofs.RoundTrip.{accepted_proper, encoded_accepted}
use Rattle.normal.specs.Normal.{Normal}
use Rattle.normal.proofs.AlikeValid.{alike_valid}
use Rattle.normal.proofs.Alikes.{normal_alike}
use Rattle.normal.proofs.Propers.{normal_proper}

pub form_proper : {P Q : Program} → Proper P → Normal P Q → Proper Q
form_proper p n = normal_proper (alike_valid (normal_alike p n) p.valid) p n

pub form_accepted : {s : List ℕ} {P Q : Program} → Bytes s → Accepts s P → Normal P Q → Accepts (encode Q) Q
form_accepted b x n = encoded_accepted (form_proper (accepted_proper b x) n)
