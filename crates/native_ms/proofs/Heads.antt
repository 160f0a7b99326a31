-- Free heads stay below 2^47: sound tables have only such, and a search makes no other. So the address of the cell that is taken
-- fits a word with room to shift it. Assumes nothing.
use Rattle.std.specs.Prelude.{if◌then◌else◌, Option, None, Some}
use Prim.Native.Nat.{ℕ, zero, suc, ◌+◌, ◌-◌, ◌*◌, ◌/◌, ◌%◌, ◌^◌, ◌<◌, ◌≤◌}
use mathlib.Core.Path.{◌≡◌, refl, sym, subst}
use mathlib.Core.Bool.{Bool, true, false, ◌&&◌}
use mathlib.Core.Logic.{inl, ⊎_elim}
use mathlib.Core.List.{List, [], ◌∷◌, head_d}
use native.Mathlib.Nat.{div-zero, div-mul-le_self, mul-le-mul_right, suc-mul, not-suc-le-zero}
use native.Mathlib.Omega.{arith}
use lib.Dec.{eqb, ltb, leb}
use lib.ListN.{length, get_or, set, get_or-eq_default}
use borrow.Author.Tests.{eqb-true, ltb-true, ltb-false, leb-true}
use Rattle.model.specs.declared.Params.{Params}
use Rattle.model.specs.declared.Block.{Block}
use Rattle.model.specs.Base.{all_below, In}
use Rattle.model.specs.Params.{start, local_sets, available, lists}
use Rattle.model.specs.Tables.{Words, Tables, set_tls, set_size, set_free, set_cells}
use Rattle.model.specs.SizeClasses.{cell_bytes}
use Rattle.model.specs.BlockList.{push, pop}
use Rattle.model.specs.Block.{state_unallocated, cell_count, is_cell, cells_down, init_chain, init_block, sweep_chain, swept_words}
use Rattle.model.specs.FreeListAllocator.{Found, acquire_fresh, find_block}
use Rattle.model.specs.Sound.{state_of, state_known, block_clear, list_named, bin_named, on_list_named, size_ok, link_ok, tls_ok, block_sound, linked, unbound_empty, in_gc_empty, phase_known, flags_known, released_few, released_some, released_empty, sound}
use Rattle.laws.proofs.Classes.{cell_bytes_some}
use Rattle.native_ms.specs.Places.{HeadCell}
use Rattle.laws.proofs.Below.{and_left, and_right, or_cases, and_three, and_four, and_five, and_seven, all_below_at}
use Rattle.laws.proofs.Params.{Bounds, start_out, start_end}
use Rattle.laws.proofs.Tables.{by_lt}
use Rattle.laws.proofs.Cells.{Free, in_cells_down}
use Rattle.laws.proofs.Frame.{links_refl, push_links, pop_links}
use Rattle.laws.proofs.Walks.{plain_steps, find_keeps}

abbrev Small : List ℕ → Type 0
Small l = (b : ℕ) → get_or l b 0 < 2 ^ 47

abbrev pub Low : Words → Type 0
Low t = (b : ℕ) → get_or t.free b 0 < 2 ^ 47

set_small : (l : List ℕ) (i v : ℕ) → v < 2 ^ 47 → Small l → Small (set l i v)
set_small [] i v k h b = h b
set_small (x ∷ l) zero v k h zero = k
set_small (x ∷ l) zero v k h (suc b) = h (suc b)
set_small (x ∷ l) (suc i) v k h zero = h 0
set_small (x ∷ l) (suc i) v k h (suc b) = set_small l i v k (λ j. h (suc j)) b

-- ---- blocks of sound tables

pub each_sound : (p : Params) (t : Tables) → sound p t ≡ true → (b : ℕ) → b < p.blocks → block_sound p t b ≡ true
unfolding sound
each_sound p t e =
    all_below_at p.blocks (block_sound p t)
    (and_seven (all_below p.blocks (block_sound p t)) (all_below lists (linked p t)) (unbound_empty t.words) (in_gc_empty t.words) (phase_known t.words && flags_known t.words) (released_few t.words && released_some t.words) (released_empty t.words) e).0

-- an Unallocated one has no free cell
pub clear_none : (w : Words) (b : ℕ) → block_clear w b ≡ true → (get_or w.free b 0 ≡ 0) × (get_or w.cells b 0 ≡ 0)
unfolding block_clear
clear_none w b e =
    let r = and_seven (eqb (get_or w.next b 0) 0) (eqb (get_or w.prev b 0) 0) (eqb (get_or w.free b 0) 0) (eqb (get_or w.size b 0) 0)
    (eqb (get_or w.list b 0) 0) (eqb (get_or w.tls b 0) 0) (eqb (get_or w.cells b 0) 0) e in
    (eqb-true _ _ r.2, eqb-true _ _ r.6)

-- ---- list operations

module _ (p : Params) where
  push_low : (l b : ℕ) (t : Words) → Low t → Low (push p l b t)
  push_low l b t h = subst (λ (f : List ℕ). Small f) (sym (push_links p l b t (links_refl t)).free) h

  pop_low : (l : ℕ) (t : Words) → Low t → Low (pop p l t).words
  pop_low l t h = subst (λ (f : List ℕ). Small f) (sym (pop_links p l t (links_refl t)).free) h

-- ---- chains

-- a cell below the count of those that fit begins before the room ends
cell_begins : (k s n : ℕ) → k < n / s → k * s < n
cell_begins k zero n h = absurd (not-suc-le-zero (subst (λ (x : ℕ). k < x) (div-zero n) h))
cell_begins k (suc s) n h =
    omega (arith, mul-le-mul_right {m = suc k} {n = n / suc s} (suc s) h, suc-mul k (suc s), div-mul-le_self n (suc s))

module _ (p : Params) (g : Bounds p) where
  start_room : (b : ℕ) → start p b + p.bytes ≤ 2 ^ 47
  start_room b = go (ltb b p.blocks) refl
    where
      go : (q : Bool) → ltb b p.blocks ≡ q → start p b + p.bytes ≤ 2 ^ 47
      go true e = omega (arith, start_end p g b (ltb-true b p.blocks e), g.end_high)
      go false e = omega (arith, start_out p b (ltb-false b p.blocks e), g.bytes_high)

  chain_low : (kept : ℕ → Bool) (b s : ℕ) → head_d (cells_down kept (start p b) s (cell_count p s)) 0 < 2 ^ 47
  unfolding cell_count head_d In
  chain_low kept b s = go (cells_down kept (start p b) s (cell_count p s)) (λ a m. cell a (in_cells_down kept (start p b) s (cell_count p s) a m))
    where
      cell : (a : ℕ) → Free kept (start p b) s (cell_count p s) a → a < 2 ^ 47
      cell a f = omega (arith, f.at, cell_begins f.k s p.bytes f.low, start_room b)

      go : (l : List ℕ) → ((a : ℕ) → In a l → a < 2 ^ 47) → head_d l 0 < 2 ^ 47
      go [] f = omega arith
      go (a ∷ l) f = f a (inl refl)

  cell_low : (b s a : ℕ) → is_cell p b s a ≡ true → a < 2 ^ 47
  unfolding is_cell
  cell_low b s a e =
      let f = and_four (ltb 0 s) (leb (start p b) a) (eqb ((a - start p b) % s) 0) (leb ((a - start p b) + s) p.bytes) e in
      omega (arith, ltb-true 0 s f.0, leb-true (start p b) a f.1, leb-true ((a - start p b) + s) p.bytes f.3, start_room b)

  link_low : (w : Words) (b a : ℕ) → link_ok p w b a ≡ true → a < 2 ^ 47
  unfolding link_ok
  link_low w b a e =
      ⊎_elim (λ z. omega (arith, eqb-true a 0 z)) (cell_low b (get_or w.size b 0) a) (or_cases (eqb a 0) (is_cell p b (get_or w.size b 0) a) e)

  block_low : (t : Tables) (b : ℕ) → block_sound p t b ≡ true → get_or t.words.free b 0 < 2 ^ 47
  unfolding block_sound
  block_low t b e = go (eqb (state_of t b) state_unallocated) e
    where
      go : (q : Bool) → (if q then block_clear t.words b else (state_known t b && on_list_named p t.words b && size_ok p t.words b
          && link_ok p t.words b (get_or t.words.free b 0) && tls_ok t.words b)) ≡ true → get_or t.words.free b 0 < 2 ^ 47
      go true c = omega (arith, (clear_none t.words b c).0)
      go false c = link_low t.words b (get_or t.words.free b 0)
          (and_right (state_known t b && on_list_named p t.words b && size_ok p t.words b) (link_ok p t.words b (get_or t.words.free b 0))
          (and_left (state_known t b && on_list_named p t.words b && size_ok p t.words b && link_ok p t.words b (get_or t.words.free b 0)) (tls_ok t.words b) c))

  pub sound_low : (t : Tables) → length t.words.free ≡ p.blocks → sound p t ≡ true → Low t.words
  sound_low t l e b =
      by_lt b p.blocks (λ low. block_low t b (each_sound p t e b low))
      (λ far. omega (arith, get_or-eq_default t.words.free 0 {n = b} (omega (arith, l))))

  -- ---- a free head of sound tables is a cell

  sized : (w : Words) (b : ℕ) → size_ok p w b ≡ true → 8 ≤ get_or w.size b 0
  unfolding size_ok bin_named
  sized w b e =
      let q = and_three (leb 1 (list_named w b % 49)) (ltb 0 (get_or w.size b 0)) (eqb (get_or w.size b 0) (cell_bytes p (list_named w b % 49))) e in
      let is = eqb-true (get_or w.size b 0) (cell_bytes p (list_named w b % 49)) q.2 in
      rw is (cell_bytes_some p (list_named w b % 49) (rw is at (ltb-true 0 (get_or w.size b 0) q.1)))

  some_link : (w : Words) (b a : ℕ) → link_ok p w b a ≡ true → (a ≡ 0 → ⊥) → is_cell p b (get_or w.size b 0) a ≡ true
  unfolding link_ok
  some_link w b a e nz = ⊎_elim (λ z. absurd (nz (eqb-true a 0 z))) (λ y. y) (or_cases (eqb a 0) (is_cell p b (get_or w.size b 0) a) e)

  block_head : (t : Tables) (b : ℕ) → block_sound p t b ≡ true → (get_or t.words.free b 0 ≡ 0 → ⊥) → HeadCell p t.words b
  unfolding block_sound
  block_head t b e nz = go (eqb (state_of t b) state_unallocated) e
    where
      go : (q : Bool) → (if q then block_clear t.words b else (state_known t b && on_list_named p t.words b && size_ok p t.words b
          && link_ok p t.words b (get_or t.words.free b 0) && tls_ok t.words b)) ≡ true → HeadCell p t.words b
      go true c = absurd (nz (clear_none t.words b c).0)
      go false c =
          let f = and_five (state_known t b) (on_list_named p t.words b) (size_ok p t.words b)
          (link_ok p t.words b (get_or t.words.free b 0)) (tls_ok t.words b) c in
          record { cell = some_link t.words b (get_or t.words.free b 0) f.3 nz; word = sized t.words b f.2 }

  pub sound_cells : (t : Tables) → sound p t ≡ true → (b : ℕ) → b < p.blocks → (get_or t.words.free b 0 ≡ 0 → ⊥) → HeadCell p t.words b
  sound_cells t e b l = block_head t b (each_sound p t e b l)

  swept_low : (ms : List ℕ) (b : ℕ) (t : Words) → Low t → Low (swept_words p ms b t)
  unfolding swept_words set_free set_cells sweep_chain
  swept_low ms b t h = set_small t.free b _ (chain_low _ b (get_or t.size b 0)) h

  init_low : (b s tls : ℕ) (t : Words) → Low t → Low (init_block p b s tls t)
  unfolding init_block set_tls set_size set_free set_cells init_chain
  init_low b s tls t h = set_small t.free b _ (chain_low _ b s) h

  tls_low : (b v : ℕ) (t : Words) → Low t → Low (set_tls b v t)
  unfolding set_tls
  tls_low b v t h = h

  -- ---- searches

  fresh_low : (holder bin : ℕ) (offer : Option Block) (f : Found) (t : Tables) → Low f.words → Low (acquire_fresh p holder bin offer f t).tables.words
  unfolding acquire_fresh
  fresh_low holder bin None f t h = h
  fresh_low holder bin (Some b) f t h =
      init_low b.0 (cell_bytes p bin) holder (push p (available (local_sets holder) bin) b.0 f.words) (push_low p (available (local_sets holder) bin) b.0 f.words h)

  pub find_low : (holder bin : ℕ) (offer : Option Block) (t : Tables) → Low t.words → Low (find_block p holder bin offer t).tables.words
  find_low holder bin offer t =
      find_keeps p holder bin t (λ es w. Low w) (λ es a w. Low w)
      (plain_steps p t.marks holder bin Low (pop_low p) (push_low p) (λ b w. tls_low b holder w) (swept_low t.marks))
      (λ s. Low s.tables.words) offer (λ f e o. fresh_low holder bin offer f t o) (λ f e o. o)
