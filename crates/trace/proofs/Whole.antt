-- A buffer of `listing_bytes` holds every listing whole. Leans on `census_short`.
use mathlib.Core.Path.{◌≡◌, ap}
use mathlib.Core.List.{List, [], ◌∷◌, ◌++◌}
use Prim.Native.Nat.{ℕ, ◌≤◌}
use native.Mathlib.Omega.{arith}
use lib.ListN.{length, drop, length-append}
use Rattle.model.specs.Memory.{overwrite}
use Rattle.model.specs.Census.{census}
use Rattle.laws.proofs.Memory.{overwrite_nil}
use Rattle.model.specs.Text.{place_after}
use Rattle.model.specs.Text.{listing_bytes}
use Rattle.trace.proofs.Room.{census_short}
use Rattle.model.specs.Text.{Listed, Whole}

-- a text that fits, written over the front
overwrite_front : (text h : List ℕ) → length text ≤ length h → overwrite 0 text h ≡ text ++ drop (length text) h
unfolding overwrite
overwrite_front [] h f = overwrite_nil 0 h
overwrite_front (v ∷ vs) [] f = absurd (omega (arith, f))
overwrite_front (v ∷ vs) (x ∷ h) f = ap (λ (l : List ℕ). v ∷ l) (overwrite_front vs h (omega (arith, f)))

-- a buffer of `listing_bytes` holds every listing whole
pub census_whole : {h h' : List ℕ} {r : ℕ} (trace : List ℕ) → listing_bytes ≤ length h → Listed h h' r (census trace)
    → Whole h h' r (census trace)
unfolding place_after
census_whole {h} trace room l =
    let fits : length (census trace) ≤ length h = omega (arith, census_short trace, room) in
    record { bytes = rw l.printed.bytes (overwrite_front (census trace) h fits); count = omega (arith, l.printed.place, fits) }

-- it lies within the buffer
pub whole_inside : {h h' : List ℕ} {r : ℕ} {text : List ℕ} → Whole h h' r text → r ≤ length h'
whole_inside {h} {h'} {r} {text} w = omega (arith, w.count, ap length w.bytes, length-append text (drop (length text) h))
