-- Sound tables and lists of blocks: what the test `sound` says of the block lists is `Good`, and lists that are `Good` pass the
-- tests of each block and of each list. Assumes nothing.
use mathlib.Core.Path.{◌≡◌, refl, sym, ap, ◌∙◌, subst}
use mathlib.Core.Logic.{◌≢◌, ⊎_elim}
use mathlib.Core.Bool.{Bool, true, false, not, ◌&&◌, ◌||◌}
use mathlib.Core.List.{List, [], ◌∷◌}
use Prim.Native.Nat.{ℕ, zero, suc, ◌+◌, ◌-◌, ◌/◌, ◌%◌, ◌≤◌, ◌<◌}
use native.Mathlib.Omega.{arith}
use native.Mathlib.Decide.{ℕ_discrete}
use lib.Dec.{eqb, ltb, leb}
use lib.ListN.{length, get_or}
use borrow.Author.Tests.{eqb-true, eqb-false, ltb-true, leb-true, leb-false, eq-eqb, ne_eqb, lt-ltb, le-leb, not-true}
use Rattle.model.specs.declared.Params.{Params}
use Rattle.model.specs.Base.{all_below, In, member}
use Rattle.model.specs.Params.{start, block_at, is_start, list_word, lists}
use Rattle.model.specs.Tables.{Words, Tables, tables_of}
use Rattle.model.specs.SizeClasses.{cell_bytes}
use Rattle.model.specs.BlockList.{walk, blocks_on}
use Rattle.model.specs.Block.{state_unallocated}
use Rattle.model.specs.Global.{is_holder}
use Rattle.model.specs.Sound.{state_of, state_known, block_clear, list_named, bin_named, set_named, on_list_named, size_ok, link_ok, tls_ok, block_sound, linked_from, linked, unbound_empty, in_gc_empty, phase_known, flags_known, released_few, released_some, released_empty, sound}
use Rattle.laws.proofs.Base.{and_left, and_right, or_cases, all_below_lem, below_all, in_member, member_in}
use Rattle.laws.proofs.Below.{true_not_false, and_both, and_three, and_five, and_seven}
use Rattle.laws.proofs.Classes.{cell_bytes_some}
use Rattle.laws.proofs.Params.{Bounds, start_pos, start_block_at, block_at_start, block_at_is_start, is_start_start}
use Rattle.laws.proofs.Linked.{linked_end, linked_long, linked_on, walk_end, walk_on}
use Rattle.soundness.proofs.Lists.{Seg, Lists, AllOn, seg_short, on_list}

-- ---- the blocks that stand from a link on

module _ (p : Params) (B : Bounds p) (st : List ℕ) (w : Words) (word last : ℕ) where
  -- a walk that may pass them meets them
  pub seg_walk : (k b a : ℕ) (xs : List ℕ) → Seg p st w word last b a xs → length xs ≤ k → walk k p w.next a ≡ xs
  unfolding Seg
  seg_walk k b a [] s h = walk_end p (tables_of w st []) 0 k a s.0
  seg_walk zero b a (x ∷ xs) s h = absurd (omega arith)
  seg_walk (suc k) b a (x ∷ xs) s h =
      let low = s.0.low in
      rw s.0.at
      (walk_on p (tables_of w st []) 0 k (start p x) (λ e. omega (arith, start_pos p B x low))
      ∙ rw (block_at_start p B x low) (ap (λ (l : List ℕ). x ∷ l) (seg_walk k (start p x) (get_or w.next x 0) xs s.1 (omega arith))))

module _ (p : Params) (B : Bounds p) where
  -- a segment of the list l passes the test
  seg_linked : (ms st : List ℕ) (w : Words) (l k b a : ℕ) (xs : List ℕ)
      → Seg p st w (list_word l) (get_or w.last l 0) b a xs → length xs ≤ k → linked_from k p (tables_of w st ms) l b a ≡ true
  unfolding Seg state_of
  seg_linked ms st w l k b a [] s h = linked_end p (tables_of w st ms) l k b a s.0 ∙ eq-eqb _ _ s.1
  seg_linked ms st w l zero b a (x ∷ xs) s h = absurd (omega arith)
  seg_linked ms st w l (suc k) b a (x ∷ xs) s h =
      let H = s.0 in
      rw H.at
      (linked_on p (tables_of w st ms) l k b (start p x) (λ e. omega (arith, start_pos p B x H.low))
      ∙ rw (block_at_start p B x H.low, is_start_start p B x H.low, ne_eqb _ _ H.occupied, eq-eqb _ _ H.names, eq-eqb _ _ H.prev)
      (seg_linked ms st w l k (start p x) (get_or w.next x 0) xs s.1 (omega arith)))

  -- 1. the lists of blocks pass the test of each list
  pub lists_linked : (ms : List ℕ) (st : List ℕ) (w : Words) (L : ℕ → List ℕ) → Lists p st w L → (l : ℕ) → l < 1470
      → linked p (tables_of w st ms) l ≡ true
  unfolding linked
  lists_linked ms st w L S l h =
      seg_linked ms st w l p.blocks 0 (get_or w.first l 0) (L l) (S.seg l h)
      (seg_short p B st w (list_word l) (get_or w.last l 0) 0 (get_or w.first l 0) (L l) (S.seg l h))

  -- the walk of a list meets its blocks
  pub lists_walk : (st : List ℕ) (w : Words) (L : ℕ → List ℕ) → Lists p st w L → (l : ℕ) → l < 1470 → blocks_on p l w ≡ L l
  unfolding blocks_on
  lists_walk st w L S l h =
      seg_walk p B st w (list_word l) (get_or w.last l 0) p.blocks 0 (get_or w.first l 0) (L l) (S.seg l h)
      (seg_short p B st w (list_word l) (get_or w.last l 0) 0 (get_or w.first l 0) (L l) (S.seg l h))

  -- 2. a block on a list is on the list that it names
  pub lists_on : (st : List ℕ) (w : Words) (L : ℕ → List ℕ) → Lists p st w L → (l b : ℕ) → l < 1470 → In b (L l)
      → (on_list_named p w b ≡ true) × (list_named w b ≡ l)
  unfolding on_list_named list_named list_word
  lists_on st w L S l b h m =
      let n : ℕ = get_or w.list b 0 in
      let e : n ≡ 1 + l = (on_list p S l b h m).names in
      let s : n - 1 ≡ l = omega arith in
      let meets : member b (blocks_on p (n - 1) w) ≡ true =
      rw (s, lists_walk st w L S l h) (in_member b (L l) m) in
      (and_both (and_both (le-leb 1 n (omega arith)) (le-leb n 1470 (omega arith))) meets, s)

-- ---- what sound tables say

-- each block and each list passes its test
pub record SoundParts (p : Params) (t : Tables) : Type 0 where
  pub blocks : (b : ℕ) → b < p.blocks → block_sound p t b ≡ true
  pub linked : (l : ℕ) → l < 1470 → linked p t l ≡ true

-- the test of tables, taken apart
pub sound_parts : (p : Params) (t : Tables) → sound p t ≡ true → SoundParts p t
unfolding sound
sound_parts p t s =
    let h = and_seven (all_below p.blocks (block_sound p t)) (all_below lists (linked p t)) (unbound_empty t.words)
    (in_gc_empty t.words) (phase_known t.words && flags_known t.words)
    (released_few t.words && released_some t.words) (released_empty t.words) s in
    record { blocks = all_below_lem p.blocks (block_sound p t) h.0; linked = all_below_lem lists (linked p t) h.1 }

-- what the test of an occupied block says
pub record BlockParts (p : Params) (t : Tables) (b : ℕ) : Type 0 where
  pub known : state_known t b ≡ true
  pub on : on_list_named p t.words b ≡ true
  pub size : size_ok p t.words b ≡ true
  pub free : link_ok p t.words b (get_or t.words.free b 0) ≡ true
  pub tls : tls_ok t.words b ≡ true

-- the test of an occupied block, taken apart
pub block_parts : (p : Params) (t : Tables) (b : ℕ) → block_sound p t b ≡ true → state_of t b ≢ 0 → BlockParts p t b
unfolding block_sound
block_parts p t b s ne =
    let h = and_five (state_known t b) (on_list_named p t.words b) (size_ok p t.words b)
    (link_ok p t.words b (get_or t.words.free b 0)) (tls_ok t.words b)
    (rw (ne_eqb (state_of t b) state_unallocated ne) at s) in
    record { known = h.0; on = h.1; size = h.2; free = h.3; tls = h.4 }

-- the test of an unallocated block
pub block_clear_lem : (p : Params) (t : Tables) (b : ℕ) → block_sound p t b ≡ true → state_of t b ≡ 0 → block_clear t.words b ≡ true
unfolding block_sound
block_clear_lem p t b s e = rw (eq-eqb (state_of t b) state_unallocated e) at s

-- 5. what sound tables say of the block b on the list l
pub record Fit (p : Params) (t : Tables) (l b : ℕ) : Type 0 where
  pub known : state_known t b ≡ true
  pub bin : 1 ≤ l % 49
  pub size : get_or t.words.size b 0 ≡ cell_bytes p (l % 49)
  pub word : 8 ≤ get_or t.words.size b 0
  pub free : link_ok p t.words b (get_or t.words.free b 0) ≡ true
  pub holder : is_holder (get_or t.words.tls b 0) ≡ true
  pub local : l < 1176 → get_or t.words.tls b 0 ≡ l / 49 / 3 + 1

-- 7. lists of blocks, every occupied block on one of them and fit for it, every other block clear
pub record Good (p : Params) (t : Tables) (L : ℕ → List ℕ) : Type 0 where
  pub lists : Lists p t.states t.words L
  pub on : AllOn p t.states L
  pub fit : (l b : ℕ) → l < 1470 → In b (L l) → Fit p t l b
  pub clear : (b : ℕ) → b < p.blocks → state_of t b ≡ 0 → block_clear t.words b ≡ true

-- the two ways round between a block's tests and Fit, for a block that names l
module _ (p : Params) (t : Tables) (l b : ℕ) (named : list_named t.words b ≡ l) where
  -- the tests say Fit
  parts_fit : BlockParts p t b → Fit p t l b
  unfolding size_ok tls_ok bin_named set_named
  parts_fit P =
      let w : Words = t.words in
      let s : ℕ = get_or w.size b 0 in
      let z = and_three (leb 1 (l % 49)) (ltb 0 s) (eqb s (cell_bytes p (l % 49))) (rw named at P.size) in
      let size : s ≡ cell_bytes p (l % 49) = eqb-true _ _ z.2 in
      let v = rw named at P.tls in
      record {
        known = P.known;
        bin = leb-true 1 (l % 49) z.0;
        size = size;
        word = rw size (cell_bytes_some p (l % 49) (rw size at (ltb-true 0 s z.1)));
        free = P.free;
        holder = and_left (is_holder (get_or w.tls b 0)) (leb 24 (l / 49) || eqb (get_or w.tls b 0) (l / 49 / 3 + 1)) v;
        local = λ h.
            ⊎_elim (λ q. absurd (omega (arith, leb-true 24 (l / 49) q))) (λ q. eqb-true _ _ q)
            (or_cases (leb 24 (l / 49)) (eqb (get_or w.tls b 0) (l / 49 / 3 + 1))
            (and_right (is_holder (get_or w.tls b 0)) (leb 24 (l / 49) || eqb (get_or w.tls b 0) (l / 49 / 3 + 1)) v));
      }

  -- Fit passes the test of sizes
  fit_size : Fit p t l b → size_ok p t.words b ≡ true
  unfolding size_ok bin_named
  fit_size F = rw named (and_both (and_both (le-leb 1 (l % 49) F.bin) (lt-ltb 0 (get_or t.words.size b 0) (omega (arith, F.word)))) (eq-eqb _ _ F.size))

  -- Fit passes the test of holders
  fit_tls : Fit p t l b → tls_ok t.words b ≡ true
  unfolding tls_ok set_named
  fit_tls F = rw named (and_both F.holder (go (leb 24 (l / 49)) refl))
    where
      go : (c : Bool) → leb 24 (l / 49) ≡ c → (c || eqb (get_or t.words.tls b 0) (l / 49 / 3 + 1)) ≡ true
      go true e = refl
      go false e = eq-eqb _ _ (F.local (omega (arith, leb-false 24 (l / 49) e)))

module _ (p : Params) (B : Bounds p) (t : Tables) where
  -- one step of a list's walk
  record LinkedStep (k l before a : ℕ) : Type 0 where
    start : is_start p a ≡ true
    occupied : state_of t (block_at p a) ≢ 0
    word : get_or t.words.list (block_at p a) 0 ≡ list_word l
    prev : get_or t.words.prev (block_at p a) 0 ≡ before
    rest : linked_from k p t l a (get_or t.words.next (block_at p a) 0) ≡ true

  -- the test of a walk, taken apart at its first block
  linked_step : (k l before a : ℕ) → linked_from (suc k) p t l before a ≡ true → a ≢ 0 → LinkedStep k l before a
  unfolding linked_from
  linked_step k l before a h ne =
      let b : ℕ = block_at p a in
      let f = and_five (is_start p a) (not (eqb (state_of t b) state_unallocated)) (eqb (get_or t.words.list b 0) (list_word l))
      (eqb (get_or t.words.prev b 0) before) (linked_from k p t l a (get_or t.words.next b 0))
      (rw (ne_eqb a 0 ne) at h) in
      record {
        start = f.0;
        occupied = eqb-false _ _ (not-true _ f.1);
        word = eqb-true _ _ f.2;
        prev = eqb-true _ _ f.3;
        rest = f.4;
      }

  -- a walk that passes the test meets the blocks that stand there
  linked_seg : (k l before a : ℕ) → linked_from k p t l before a ≡ true
      → Seg p t.states t.words (list_word l) (get_or t.words.last l 0) before a (walk k p t.words.next a)
  unfolding Seg state_of
  linked_seg zero l before a h = go (ℕ_discrete a 0)
    where
      go : Dec (a ≡ 0) → Seg p t.states t.words (list_word l) (get_or t.words.last l 0) before a (walk zero p t.words.next a)
      go (yes e) = rw (walk_end p t l zero a e) (e, eqb-true _ _ (sym (linked_end p t l zero before a e) ∙ h))
      go (no ne) = absurd (true_not_false (sym h ∙ linked_long p t l before a ne))
  linked_seg (suc k) l before a h = go (ℕ_discrete a 0) (λ b. linked_seg k l b)
    where
      go : Dec (a ≡ 0)
          → ((b c : ℕ) → linked_from k p t l b c ≡ true → Seg p t.states t.words (list_word l) (get_or t.words.last l 0) b c (walk k p t.words.next c))
          → Seg p t.states t.words (list_word l) (get_or t.words.last l 0) before a (walk (suc k) p t.words.next a)
      go (yes e) ih = rw (walk_end p t l (suc k) a e) (e, eqb-true _ _ (sym (linked_end p t l (suc k) before a e) ∙ h))
      go (no ne) ih =
          let f = linked_step k l before a h ne in
          let at : start p (block_at p a) ≡ a = start_block_at p B a f.start in
          rw (walk_on p t l k a ne) (
            record { at = sym at; low = block_at_is_start p B a f.start; occupied = f.occupied; names = f.word; prev = f.prev },
            subst (λ (z : ℕ). Seg p t.states t.words (list_word l) (get_or t.words.last l 0) z (get_or t.words.next (block_at p a) 0) (walk k p t.words.next (get_or t.words.next (block_at p a) 0)))
                (sym at) (ih a (get_or t.words.next (block_at p a) 0) f.rest),
          )

  -- 3. the walks of sound tables are their lists of blocks
  pub sound_lists : sound p t ≡ true → Lists p t.states t.words (λ l. blocks_on p l t.words)
  unfolding linked blocks_on
  sound_lists s = record { seg = λ l h. linked_seg p.blocks l 0 (get_or t.words.first l 0) ((sound_parts p t s).linked l h) }

  -- the list that a block names: its number, and that its walk meets the block
  on_parts : (b : ℕ) → on_list_named p t.words b ≡ true
      → (list_named t.words b < 1470) × In b (blocks_on p (list_named t.words b) t.words)
  unfolding on_list_named list_named
  on_parts b on =
      let n : ℕ = get_or t.words.list b 0 in
      let f = and_three (leb 1 n) (leb n 1470) (member b (blocks_on p (n - 1) t.words)) on in
      (omega (arith, leb-true 1 n f.0, leb-true n 1470 f.1), member_in b (blocks_on p (n - 1) t.words) f.2)

  -- 4. in sound tables every occupied block is on a list
  pub sound_on_lem : sound p t ≡ true → AllOn p t.states (λ l. blocks_on p l t.words)
  unfolding AllOn state_of
  sound_on_lem s b low ne =
      let i = on_parts b (block_parts p t b ((sound_parts p t s).blocks b low) ne).on in
      (list_named t.words b, i.0, i.1)

  -- 5. and it fits there
  pub sound_fit : sound p t ≡ true → (l b : ℕ) → l < 1470 → In b (blocks_on p l t.words) → Fit p t l b
  unfolding state_of
  sound_fit s l b h m =
      let H = on_list p (sound_lists s) l b h m in
      parts_fit p t l b (lists_on p B t.states t.words (λ l. blocks_on p l t.words) (sound_lists s) l b h m).1
      (block_parts p t b ((sound_parts p t s).blocks b H.low) H.occupied)

  -- 6. back again: a block on a list, and fit for it, passes its test
  pub block_sound_lem : (L : ℕ → List ℕ) → Lists p t.states t.words L → (l b : ℕ) → l < 1470 → In b (L l) → Fit p t l b
      → block_sound p t b ≡ true
  unfolding block_sound state_of
  block_sound_lem L S l b h m F =
      let on = lists_on p B t.states t.words L S l b h m in
      let H = on_list p S l b h m in
      rw (ne_eqb (get_or t.states b 0) 0 H.occupied)
      (and_both (and_both (and_both (and_both F.known on.0) (fit_size p t l b on.1 F)) F.free) (fit_tls p t l b on.1 F))

  -- 7. sound tables are good, with their walks as the lists
  pub sound_good : sound p t ≡ true → Good p t (λ l. blocks_on p l t.words)
  sound_good s =
      record {
        lists = sound_lists s;
        on = sound_on_lem s;
        fit = sound_fit s;
        clear = λ b low e. block_clear_lem p t b ((sound_parts p t s).blocks b low) e;
      }

  -- and good ones pass the tests of each block
  pub good_blocks : (L : ℕ → List ℕ) → Good p t L → all_below p.blocks (block_sound p t) ≡ true
  unfolding AllOn state_of block_sound
  good_blocks L G = below_all p.blocks (block_sound p t) (λ b low. go b low (ℕ_discrete (get_or t.states b 0) 0))
    where
      go : (b : ℕ) → b < p.blocks → Dec (get_or t.states b 0 ≡ 0) → block_sound p t b ≡ true
      go b low (yes e) = rw (eq-eqb (get_or t.states b 0) 0 e) (G.clear b low e)
      go b low (no ne) =
          let i = G.on b low ne in
          block_sound_lem L G.lists i.0 b i.1 i.2 (G.fit i.0 b i.1 i.2)

  -- and of each list
  pub good_linked : (L : ℕ → List ℕ) → Good p t L → all_below lists (linked p t) ≡ true
  good_linked L G = below_all 1470 (linked p t) (λ l h. lists_linked p B t.marks t.states t.words L G.lists l h)
