-- The work of one call in Running (02, R-12): what it sweeps waited on an abandoned unswept list, and it moves a block to a consumed list
-- as often as the block's list word says. Both go by list words and events alone, and each is one sum that every step of the search
-- keeps. Assumes nothing.
use Rattle.std.specs.Prelude.{if◌then◌else◌}
use mathlib.Core.Path.{◌≡◌, refl, sym, ap, ◌∙◌, subst}
use mathlib.Core.Logic.{◌≢◌, ⊎_elim}
use mathlib.Core.Bool.{Bool, true, false, not, ◌&&◌}
use mathlib.Core.List.{List, [], ◌∷◌, ◌++◌}
use Prim.Native.Nat.{ℕ, ◌+◌, ◌-◌, ◌*◌, ◌/◌, ◌%◌, ◌≤◌, ◌<◌}
use native.Mathlib.Omega.{arith}
use native.Mathlib.Decide.{ℕ_discrete}
use lib.Dec.{eqb}
use lib.ListN.{length, get_or, length-append}
use borrow.Author.Tests.{eq-eqb, ne_eqb}
use Rattle.model.specs.declared.Params.{Params}
use Rattle.model.specs.Base.{filter, sum_below, flag}
use Rattle.model.specs.Params.{block_at, list_of, list_word, local_sets, abandoned, available, unswept, consumed}
use Rattle.model.specs.Tables.{Words, set_free, set_tls, set_cells}
use Rattle.model.specs.BlockList.{Popped, push, pop}
use Rattle.model.specs.Block.{swept_words}
use Rattle.model.specs.Events.{Event, spent, is_sweep, sweeps, spends, times_spent}
use Rattle.model.specs.FreeListAllocator.{sweep_of}
use Rattle.model.specs.Runs.{Book}
use Rattle.laws.proofs.Base.{filter_append, if_true, if_false}
use Rattle.laws.proofs.Params.{Bounds, block_at_start}
use Rattle.laws.proofs.Tables.{Sized}
use Rattle.laws.proofs.Stores.{set_at, set_off}
use Rattle.laws.proofs.Pigeon.{sum_same, sum_add, sum_one, flag_one, flag_none}
use Rattle.laws.proofs.Frame.{push_list}
use Rattle.laws.proofs.Walks.{Files, Steps}
use Rattle.soundness.proofs.Owners.{available_numbered, unswept_numbered}
use Rattle.runs.proofs.Links.{Occupied, pop_cases}
use Rattle.runs.proofs.Search.{Going, Gone, steps}

-- ---- list words

-- the word names an abandoned unswept list; a consumed one
unfoldable pub waits_on : ℕ → Bool
waits_on word = eqb ((word - 1) / 49) 25

unfoldable pub full_on : ℕ → Bool
full_on word = eqb ((word - 1) / 49 % 3) 2

-- the lists of the owner whose first set is 3j
module _ (j bin : ℕ) (few : j ≤ 9) (low : bin < 49) where
  pub available_waits : waits_on (list_word (available (3 * j) bin)) ≡ false
  unfolding waits_on available list_of list_word
  available_waits = ne_eqb ((list_word (available (3 * j) bin) - 1) / 49) 25 (λ e. omega (arith, e))

  pub available_full : full_on (list_word (available (3 * j) bin)) ≡ false
  unfolding full_on available list_of list_word
  available_full = ne_eqb ((list_word (available (3 * j) bin) - 1) / 49 % 3) 2 (λ e. omega (arith, e))

  pub consumed_waits : waits_on (list_word (consumed (3 * j) bin)) ≡ false
  unfolding waits_on consumed list_of list_word
  consumed_waits = ne_eqb ((list_word (consumed (3 * j) bin) - 1) / 49) 25 (λ e. omega (arith, e))

  pub consumed_full : full_on (list_word (consumed (3 * j) bin)) ≡ true
  unfolding full_on consumed list_of list_word
  consumed_full = eq-eqb ((list_word (consumed (3 * j) bin) - 1) / 49 % 3) 2 (omega arith)

  unswept_full : full_on (list_word (unswept (3 * j) bin)) ≡ false
  unfolding full_on unswept list_of list_word
  unswept_full = ne_eqb ((list_word (unswept (3 * j) bin) - 1) / 49 % 3) 2 (λ e. omega (arith, e))

unswept_waits : (bin : ℕ) → bin < 49 → waits_on (list_word (unswept abandoned bin)) ≡ true
unfolding waits_on unswept list_of list_word
unswept_waits bin low = eq-eqb ((list_word (unswept abandoned bin) - 1) / 49) 25 (omega arith)

-- a block in use that waits, by state bytes and list words; how many there are
abbrev pub in_queue : List ℕ → List ℕ → ℕ → ℕ
in_queue st list b = flag (not (eqb (get_or st b 0) 0) && waits_on (get_or list b 0))

unfoldable pub queue : Params → List ℕ → List ℕ → ℕ
queue p st list = sum_below p.blocks (in_queue st list)

-- whether the block b names no consumed list
abbrev pub outside : List ℕ → ℕ → ℕ
outside list b = flag (not (full_on (get_or list b 0)))

-- one block leaves the queue, if it was in it; the others stay as they are
pub queue_moved : (p : Params) (st st' list list' : List ℕ) (b : ℕ) → b < p.blocks
    → ((z : ℕ) → z ≢ b → (get_or st' z 0 ≡ get_or st z 0) × (get_or list' z 0 ≡ get_or list z 0)) → waits_on (get_or list' b 0) ≡ false
    → queue p st' list' + in_queue st list b ≡ queue p st list
unfolding queue
queue_moved p st st' list list' b low same out =
    sym (sum_same p.blocks f (λ z. g z + d z) (λ z lz. at z (ℕ_discrete z b)) ∙ sum_add p.blocks g d
    ∙ ap (λ (x : ℕ). sum_below p.blocks g + x) (sum_one p.blocks d b low (λ z lz n. if_false (eqb z b) (f b) 0 (ne_eqb z b n)) ∙ if_true (eqb b b) (f b) 0 (eq-eqb b b refl)))
  where
    f : ℕ → ℕ
    f z = in_queue st list z

    g : ℕ → ℕ
    g z = in_queue st' list' z

    d : ℕ → ℕ
    d z = if eqb z b then f b else 0

    none : g b ≡ 0
    none = flag_none (rw out (and_none (not (eqb (get_or st' b 0) 0))))
      where
        and_none : (x : Bool) → (x && false) ≡ false
        and_none true = refl
        and_none false = refl

    at : (z : ℕ) → Dec (z ≡ b) → f z ≡ g z + d z
    at z (yes e) =
        let here : d z ≡ f b = if_true (eqb z b) (f b) 0 (eq-eqb z b e) in
        let same : f z ≡ f b = ap f e in
        let gone : g z ≡ g b = ap g e in
        omega (arith, here, same, gone, none)
    at z (no n) =
        let here : d z ≡ 0 = if_false (eqb z b) (f b) 0 (ne_eqb z b n) in
        let same : g z ≡ f z = rw ((same z n).0, (same z n).1) in
        omega (arith, here, same)

-- ---- events counted

count_append : (test : Event → Bool) (es fs : List Event) → length (filter test (es ++ fs)) ≡ length (filter test es) + length (filter test fs)
count_append test es fs = ap length (filter_append test es fs) ∙ length-append (filter test es) (filter test fs)

pub sweeps_append : (es fs : List Event) → sweeps (es ++ fs) ≡ sweeps es + sweeps fs
unfolding sweeps
sweeps_append = count_append is_sweep

pub spent_append : (b : ℕ) (es fs : List Event) → times_spent b (es ++ fs) ≡ times_spent b es + times_spent b fs
unfolding times_spent
spent_append b = count_append (spends b)

spent_one : (b d : ℕ) → times_spent d (spent b ∷ []) ≡ flag (eqb d b)
unfolding times_spent filter spends flag
spent_one b d = go (eqb d b)
  where
    go : (x : Bool) → length (if x then (spent b ∷ []) else []) ≡ flag x
    go true = refl
    go false = refl

spent_sweeps : (b : ℕ) → sweeps (spent b ∷ []) ≡ 0
unfolding sweeps filter is_sweep
spent_sweeps b = refl

-- ---- the search: from the words w₀ on, es happened and the words are w

module _ (p : Params) (st : List ℕ) (w₀ : Words) where
  pub record Work (es : List Event) (w : Words) : Type 0 where
    -- each sweep took a block out of the queue
    pub few : sweeps es + queue p st w.list ≤ queue p st w₀.list
    -- and a block that went to a consumed list names one
    pub once : (b : ℕ) → times_spent b es + outside w.list b ≡ outside w₀.list b
    -- free blocks stay as they were
    pub free : (b : ℕ) → get_or st b 0 ≡ 0 → get_or w.list b 0 ≡ get_or w₀.list b 0

  pub no_work : Work [] w₀
  unfolding sweeps times_spent filter
  no_work = record { few = omega arith; once = λ b. omega arith; free = λ b z. refl }

  -- the block b of the list l, which is no consumed one, was popped, and the words are v. It may have been swept where l is abandoned
  -- unswept: then es₁ has one sweep more than es. It goes to the list c
  module _ (es es₁ : List Event) (w v : Words) (K : Work es w) (l b : ℕ) (ob : Occupied p st b) (word : get_or w.list b 0 ≡ list_word l)
      (same : (z : ℕ) → get_or v.list z 0 ≡ get_or w.list z 0) (long : length v.list ≡ p.blocks) (left : full_on (list_word l) ≡ false)
      (swept : sweeps es₁ ≤ sweeps es + flag (waits_on (list_word l))) (unspent : (d : ℕ) → times_spent d es₁ ≡ times_spent d es)
      (c : ℕ) (settled : waits_on (list_word c) ≡ false) where
    abbrev u : Words
    u = push p c b v

    now : get_or u.list b 0 ≡ list_word c
    now = ap (λ (x : List ℕ). get_or x b 0) (push_list p c b v) ∙ set_at v.list b (list_word c) (omega (arith, long, ob.0))

    others : (z : ℕ) → z ≢ b → get_or u.list z 0 ≡ get_or w.list z 0
    others z f = ap (λ (x : List ℕ). get_or x z 0) (push_list p c b v) ∙ set_off v.list b (list_word c) z f ∙ same z

    moved_few : sweeps es₁ + queue p st u.list ≤ queue p st w₀.list
    moved_few =
        let q : queue p st u.list + in_queue st w.list b ≡ queue p st w.list =
        queue_moved p st st w.list u.list b ob.0 (λ z f. (refl, others z f)) (rw now settled) in
        let was : in_queue st w.list b ≡ flag (waits_on (list_word l)) = rw (ne_eqb (get_or st b 0) 0 ob.1, word) in
        omega (arith, q, was, swept, K.few)

    moved_free : (z : ℕ) → get_or st z 0 ≡ 0 → get_or u.list z 0 ≡ get_or w₀.list z 0
    moved_free z e = others z (λ q. ob.1 (ap (λ (x : ℕ). get_or st x 0) (sym q) ∙ e)) ∙ K.free z e

    was_outside : outside w.list b ≡ 1
    was_outside = flag_one (rw (word, left))

    -- an available list
    pub moved_has : full_on (list_word c) ≡ false → Work es₁ u
    moved_has has = record { few = moved_few; once = λ d. at d (ℕ_discrete d b); free = moved_free }
      where
        at : (d : ℕ) → Dec (d ≡ b) → times_spent d es₁ + outside u.list d ≡ outside w₀.list d
        at d (yes e) =
            let is : outside u.list b ≡ 1 = flag_one (rw (now, has)) in
            let back : outside u.list d ≡ outside u.list b = ap (outside u.list) e in
            let there : outside w.list d ≡ outside w.list b = ap (outside w.list) e in
            omega (arith, K.once d, unspent d, is, back, there, was_outside)
        at d (no f) =
            let is : outside u.list d ≡ outside w.list d = rw (others d f) in
            omega (arith, K.once d, unspent d, is)

    -- a consumed one
    pub moved_full : full_on (list_word c) ≡ true → Work (es₁ ++ (spent b ∷ [])) u
    moved_full full =
        record {
          few = omega (arith, moved_few, sweeps_append es₁ (spent b ∷ []), spent_sweeps b);
          once = λ d. at d (ℕ_discrete d b);
          free = moved_free;
        }
      where
        at : (d : ℕ) → Dec (d ≡ b) → times_spent d (es₁ ++ (spent b ∷ [])) + outside u.list d ≡ outside w₀.list d
        at d (yes e) =
            let one : times_spent d (spent b ∷ []) ≡ 1 = spent_one b d ∙ flag_one (eq-eqb d b e) in
            let is : outside u.list b ≡ 0 = flag_none (rw (now, full)) in
            let back : outside u.list d ≡ outside u.list b = ap (outside u.list) e in
            let there : outside w.list d ≡ outside w.list b = ap (outside w.list) e in
            omega (arith, K.once d, unspent d, spent_append d es₁ (spent b ∷ []), one, is, back, there, was_outside)
        at d (no f) =
            let one : times_spent d (spent b ∷ []) ≡ 0 = spent_one b d ∙ flag_none (ne_eqb d b f) in
            let is : outside u.list d ≡ outside w.list d = rw (others d f) in
            omega (arith, K.once d, unspent d, spent_append d es₁ (spent b ∷ []), one, is)

-- ---- every step keeps both sums, where the holder has no unswept list

-- the block b, at the head of the list l, is popped: no list word changes
record Headed (p : Params) (st : List ℕ) (l : ℕ) (w : Words) (b : ℕ) : Type 0 where
  occupied : Occupied p st b
  word : get_or w.list b 0 ≡ list_word l
  lists : (z : ℕ) → get_or (pop p l w).words.list z 0 ≡ get_or w.list z 0
  lengths : Sized p.blocks (pop p l w).words

module _ (p : Params) (B : Bounds p) (st ms : List ℕ) (hd : ℕ) (h : List ℕ) (sh : List (List ℕ)) (bk : Book)
    (bin j : ℕ) (low : bin < 49) (few : j < 8) (own : local_sets hd ≡ 3 * j) (w₀ : Words) where
  abbrev pub On : List Event → Words → Type 0
  On es w = Going p B st ms hd h sh bk es w × Work p st w₀ es w

  abbrev pub Got : List Event → ℕ → Words → Type 0
  Got es a w = Gone p B st ms hd h sh bk bin es a w × Work p st w₀ es w

  S : Steps p ms hd bin (Going p B st ms hd h sh bk) (Gone p B st ms hd h sh bk bin)
  S = steps p B st ms hd h sh bk bin j low few own

  av_low : available (local_sets hd) bin < 1470
  av_low = rw own (available_numbered j bin (omega arith) low).low

  av_waits : waits_on (list_word (available (local_sets hd) bin)) ≡ false
  av_waits = rw own (available_waits j bin (omega arith) low)

  av_full : full_on (list_word (available (local_sets hd) bin)) ≡ false
  av_full = rw own (available_full j bin (omega arith) low)

  co_waits : waits_on (list_word (consumed (local_sets hd) bin)) ≡ false
  co_waits = rw own (consumed_waits j bin (omega arith) low)

  co_full : full_on (list_word (consumed (local_sets hd) bin)) ≡ true
  co_full = rw own (consumed_full j bin (omega arith) low)

  top : (es : List Event) (w : Words) → On es w → (l : ℕ) → l < 1470 → get_or w.first l 0 ≢ 0
      → Headed p st l w (block_at p (get_or w.first l 0))
  top es w o l ll some =
      ⊎_elim (λ E. absurd (some E.first))
      (λ z.
      let P = z.1 in
      rw (ap (block_at p) P.first ∙ block_at_start p B z.0 P.popping.occupied.0) (record {
        occupied = P.popping.occupied;
        word = P.popping.word;
        lists = subst (λ (x : Popped). (y : ℕ) → get_or x.words.list y 0 ≡ get_or w.list y 0) (sym P.is) P.popping.lists;
        lengths = subst (λ (x : Popped). Sized p.blocks x.words) (sym P.is) P.popping.lengths;
      }))
      (pop_cases p st B w o.0.searching.lengths o.0.searching.linked l ll)

  -- a sweep is one, and spends no block
  one_sweep : (es : List Event) (b : ℕ) (w : Words) → sweeps (es ++ (sweep_of p ms b w ∷ [])) ≡ sweeps es + 1
  unfolding sweeps filter is_sweep
  one_sweep es b w = omega (arith, sweeps_append es (sweep_of p ms b w ∷ []))

  none_spent : (es : List Event) (b : ℕ) (w : Words) (d : ℕ) → times_spent d (es ++ (sweep_of p ms b w ∷ [])) ≡ times_spent d es
  unfolding times_spent filter spends
  none_spent es b w d = omega (arith, spent_append d es (sweep_of p ms b w ∷ []))

  over_files : (es : List Event) (w : Words) → On es w → get_or w.first (available abandoned bin) 0 ≢ 0
      → let a : ℕ = get_or w.first (available abandoned bin) 0 in
      Files p ms hd bin On Got es a (set_tls (block_at p a) hd (pop p (available abandoned bin) w).words)
  unfolding set_tls
  over_files es w o some =
      let l : ℕ = available abandoned bin in
      let b : ℕ = block_at p (get_or w.first l 0) in
      let v : Words = set_tls b hd (pop p l w).words in
      let T : Headed p st l w b = top es w o l (available_numbered 8 bin (omega arith) low).low some in
      let F = S.over es w o.0 some in
      let left : full_on (list_word l) ≡ false = available_full 8 bin (omega arith) low in
      record {
        full = λ q. (
          F.full q,
          moved_full p st w₀ es es w v o.1 l b T.occupied T.word T.lists T.lengths.list left (omega arith) (λ d. refl) (consumed (local_sets hd) bin) co_waits co_full,
        );
        has = λ q. (
          F.has q,
          moved_has p st w₀ es es w v o.1 l b T.occupied T.word T.lists T.lengths.list left (omega arith) (λ d. refl) (available (local_sets hd) bin) av_waits av_full,
        );
      }

  swept_files : (es : List Event) (w : Words) → On es w → get_or w.first (available abandoned bin) 0 ≡ 0 → get_or w.first (unswept abandoned bin) 0 ≢ 0
      → let a : ℕ = get_or w.first (unswept abandoned bin) 0 in
      let u : Words = set_tls (block_at p a) hd (pop p (unswept abandoned bin) w).words in
      Files p ms hd bin On Got (es ++ (sweep_of p ms (block_at p a) u ∷ [])) a (swept_words p ms (block_at p a) u)
  unfolding set_tls swept_words set_free set_cells
  swept_files es w o none some =
      let l : ℕ = unswept abandoned bin in
      let b : ℕ = block_at p (get_or w.first l 0) in
      let u : Words = set_tls b hd (pop p l w).words in
      let es₁ : List Event = es ++ (sweep_of p ms b u ∷ []) in
      let T : Headed p st l w b = top es w o l (unswept_numbered 8 bin (omega arith) low).low some in
      let F = S.swept es w o.0 none some in
      let left : full_on (list_word l) ≡ false = unswept_full 8 bin (omega arith) low in
      let one : sweeps es₁ ≤ sweeps es + flag (waits_on (list_word l)) = omega (arith, one_sweep es b u, flag_one (unswept_waits bin low)) in
      record {
        full = λ q. (
          F.full q,
          moved_full p st w₀ es es₁ w (swept_words p ms b u) o.1 l b T.occupied T.word T.lists T.lengths.list left one (none_spent es b u) (consumed (local_sets hd) bin) co_waits co_full,
        );
        has = λ q. (
          F.has q,
          moved_has p st w₀ es es₁ w (swept_words p ms b u) o.1 l b T.occupied T.word T.lists T.lengths.list left one (none_spent es b u) (available (local_sets hd) bin) av_waits av_full,
        );
      }

  pub work_steps : Steps p ms hd bin On Got
  work_steps =
      record {
        moved = λ es w o some q.
            let l : ℕ = available (local_sets hd) bin in
            let b : ℕ = block_at p (get_or w.first l 0) in
            let T : Headed p st l w b = top es w o l av_low some in (
              S.moved es w o.0 some q,
              moved_full p st w₀ es es w (pop p l w).words o.1 l b T.occupied T.word T.lists T.lengths.list av_full (omega arith) (λ d. refl) (consumed (local_sets hd) bin) co_waits co_full,
            );
        seen = λ es w o some q. (S.seen es w o.0 some q, o.1);
        recycled = λ es w o some. absurd (some (rw own (o.0.searching.idle j bin few low)));
        over = λ es w o some. over_files es w o some;
        swept = λ es w o none some. swept_files es w o none some;
      }
