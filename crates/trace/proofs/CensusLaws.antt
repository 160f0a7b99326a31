-- The whole listing, from what stands after the lines of a trace.
use mathlib.Core.Path.{◌≡◌, refl, ap}
use mathlib.Core.List.{List, [], ◌∷◌, ◌++◌, map}
use Prim.Native.Nat.{ℕ, ◌≤◌}
use native.Mathlib.Omega.{arith}
use lib.ListN.{length, take, replicate}
use Rattle.model.specs.declared.Params.{Params}
use Rattle.model.specs.Params.{Lent, word_count}
use Rattle.model.specs.Calls.{Reply}
use Rattle.model.specs.Tables.{tables_of, view}
use Rattle.model.specs.Sound.{state_of}
use Rattle.model.specs.Census.{section, occupied, block_row, free_section, lines_of, census_params, census_lent, run_lines, Ran, listing, census}
use Rattle.listing.specs.declared.print.Refused.{Refused}
use Rattle.listing.specs.Print.{refused_rows}
use Rattle.model.specs.Text.{place_after, Printed}
use Rattle.laws.proofs.Text.{length_printed}
use Rattle.model.specs.Memory.{overwrite}
use Rattle.trace.proofs.Room.{census_short}
use Rattle.model.specs.Promise.{lend, SetUpPromised}
use Rattle.trace.specs.Run.{TraceRan}
use Rattle.listing.specs.Sections.{tables_read, blocks_text, free_text}
use Rattle.model.specs.Text.{Listed}
use Rattle.listing.specs.Listing.{listing_text}
use Rattle.trace.specs.Census.{listed_from}

-- no block's row looks at a mark
sections_same : (w s m h : List ℕ) (rows : List (List ℕ)) (name : List ℕ)
    → section name rows ++ (blocks_text w s ++ free_text w s m h) ≡ section name rows ++ (section (98 ∷ 108 ∷ 111 ∷ 99 ∷ 107 ∷ 115 ∷ []) (map (block_row (tables_of (view w) s m)) (occupied (tables_of (view w) s m))) ++ section (102 ∷ 114 ∷ 101 ∷ 101 ∷ []) (free_section (tables_of (view w) s m) h))
unfolding blocks_text free_text tables_read block_row occupied state_of
sections_same w s m h rows name = refl

-- what the run leaves is what is listed
same_listing : (ran : Ran) (w s m h : List ℕ) (rs : List Refused) → TraceRan ran rs (lend w s m h) → listing_text rs w s m h ≡ listing ran
unfolding listing_text listing refused_rows
same_listing ran w s m h rs t =
    rw (← t.lent, ← t.refusals) (sections_same w s m h _ _)

-- set-up, the run and the listing, one after the other
pub listed : {h h' : List ℕ} {r : ℕ} {p : Params} {reply : Reply} (l l₁ : Lent) (trace w s m heap : List ℕ) {rs rs' : List Refused}
    → p ≡ census_params → SetUpPromised p l reply l₁ → TraceRan (run_lines 1 (lines_of trace) l₁) rs (lend w s m heap)
    → rs' ≡ rs → Printed h h' 0 r (listing_text rs' w s m heap) → Printed h h' 0 r (listed_from l trace)
unfolding listed_from
listed l l₁ trace w s m heap e u t k q =
    rw (← e, ← u.lent) (rw (k, same_listing _ w s m heap _ t) at q)

-- the census lends zeros
lends_zeros : lend (replicate 2986 0) (replicate 4 0) (replicate 256 0) (replicate 16384 0) ≡ census_lent
unfolding census_lent word_count census_params
lends_zeros = refl

census_printed : {h h' : List ℕ} {r : ℕ} (trace : List ℕ)
    → Printed h h' 0 r (listed_from (lend (replicate 2986 0) (replicate 4 0) (replicate 256 0) (replicate 16384 0)) trace)
    → Printed h h' 0 r (census trace)
unfolding census listed_from
census_printed trace p = rw lends_zeros at p

-- ---- what the call promises

take_overwrite : (text h : List ℕ) → length text ≤ length h → take (length text) (overwrite 0 text h) ≡ text
unfolding overwrite
take_overwrite [] h f = refl
take_overwrite (v ∷ vs) [] f = absurd (omega (arith, f))
take_overwrite (v ∷ vs) (x ∷ h) f = ap (λ (l : List ℕ). v ∷ l) (take_overwrite vs h (omega (arith, f)))

printed_inside : {h h' : List ℕ} {r : ℕ} {text : List ℕ} → Printed h h' 0 r text → r ≤ length h'
unfolding place_after
printed_inside p = omega (arith, p.place, length_printed p)

pub whole_printed : {h h' : List ℕ} {r : ℕ} {text : List ℕ} → Printed h h' 0 r text → length text ≤ length h → take r h' ≡ text
unfolding place_after
whole_printed {h} {h'} {r} {text} p f =
    let e : r ≡ length text = omega (arith, p.place, f) in
    rw (p.bytes, e) (take_overwrite text h f)

pub census_listed : {h h' : List ℕ} {r : ℕ} (trace : List ℕ)
    → Printed h h' 0 r (listed_from (lend (replicate 2986 0) (replicate 4 0) (replicate 256 0) (replicate 16384 0)) trace)
    → Listed h h' r (census trace)
census_listed trace p =
    let q = census_printed trace p in
    record { printed = q; inside = printed_inside q; whole = λ f. whole_printed q (omega (arith, f, census_short trace)) }
