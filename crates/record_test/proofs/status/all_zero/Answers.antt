-- The loop's invariant: what was seen is zero and the rest is all zero, exactly when the whole is.
use Prim.Native.Nat.{ℕ, ◌+◌, ◌*◌, ◌/◌}
use mathlib.Core.Path.{◌≡◌, sym, ap, ◌∙◌}
use mathlib.Core.Bool.{Bool, ◌&&◌}
use native.Mathlib.Omega.{arith}
use lib.Bits.{bit_or}
use lib.ListN.{length, drop, length-drop}
use lib.Seq.{drop-drop}
use lib.Dec.{eqb}
use Rattle.rules.specs.Bytes.{Bytes, all_zero, unsigned_at}
use Rattle.rules.proofs.Bools.{and_assoc, either_zero}
use Rattle.record_test.proofs.Statuses.{word_and_rest, last_word}
use Rattle.record_test.proofs.status.all_zero.Goals as goal

-- a word more
next : (bs : Bytes) (seen i w : ℕ) (all : Bool) → w ≡ unsigned_at bs (8 * i) 8 → eqb seen 0 && all_zero (drop (8 * i) bs) ≡ all
    → eqb (bit_or seen w) 0 && all_zero (drop (8 * (i + 1)) bs) ≡ all
unfolding unsigned_at
next bs seen i w all e h =
    let n : 8 * (i + 1) ≡ 8 * i + 8 = omega arith in
    rw (n, either_zero seen w, e, ← drop-drop 8 (8 * i) bs) (and_assoc (eqb seen 0) _ _ ∙ ap (λ (b : Bool). eqb seen 0 && b) (sym (word_and_rest 8 (drop (8 * i) bs))) ∙ h)

-- the bytes that are left
last : (bs : Bytes) (seen i w : ℕ) → i ≡ length bs / 8 → w ≡ unsigned_at bs (8 * (length bs / 8)) 8 → eqb seen 0 && all_zero (drop (8 * i) bs) ≡ all_zero bs
    → eqb (bit_or seen w) 0 ≡ all_zero bs
unfolding unsigned_at
last bs seen i w s e h =
    either_zero seen w
    ∙ ap (λ (b : Bool). eqb seen 0 && b) (ap (λ (x : ℕ). eqb x 0) e ∙ last_word 8 (drop (8 * (length bs / 8)) bs) (omega (arith, length-drop (8 * (length bs / 8)) bs)) ∙ ap (λ (k : ℕ). all_zero (drop (8 * k) bs)) (sym s))
    ∙ h

pub loop-i-preserved : goal.loop-i-preserved
loop-i-preserved c =
    let l = c.loop-i in
    next c.args.bytes.now l.seen l.i c.read-seen.result _ c.read-seen.ensures l.invariant

pub returns : goal.returns
returns c =
    let l = c.loop-i in
    last c.args.bytes.now l.seen l.i c.read.result (omega arith) c.read.ensures l.invariant
