-- The entries of a slice of bytes are lists of bytes, so demand 3 holds of them.
use Prim.Native.Nat.{ℕ, zero, suc, ◌-◌}
use mathlib.Core.Path.{◌≡◌, refl}
use mathlib.Core.Bool.{true}
use mathlib.Core.List.{List}
use lib.ListN.{length, drop, get_or}
use mir.Syntax.{w8}
use mir.Val.{Fits}
use Rattle.rules.specs.Log.{all}
use Rattle.rules.specs.Bytes.{Bytes, are_bytes}
use Rattle.claims.specs.Demand3.{Demand3}
use Rattle.rules.proofs.Bytes.{are_bytes_lem, drop-bytes, take-bytes}
use Rattle.claims.proofs.Demand3.{demand3}
use Rattle.replay.specs.Entries.{start_of, entries_to, entries_of}

module _ (bs : Bytes) (ends : List ℕ) where
  all-bytes : (n : ℕ) → are_bytes bs ≡ true → all are_bytes (entries_to bs ends n) ≡ true
  all-bytes zero h = refl
  all-bytes (suc n) h =
      let from = start_of ends n in
      rw (all-bytes n h, take-bytes (get_or ends n 0 - from) (drop from bs) (drop-bytes from bs h))

  pub claimed : ((i : ℕ) → Fits w8 (get_or bs i 0)) → Demand3 (entries_of bs ends)
  claimed h = demand3 (entries_of bs ends) (all-bytes (length ends) (are_bytes_lem bs h))
