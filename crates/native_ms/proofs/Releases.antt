-- Releases of blocks with their counts: what the code shows of the machine's events, one law for each way out. Assumes nothing.
use Rattle.std.specs.Prelude.{if◌then◌else◌}
use Prim.Native.Nat.{ℕ, zero, suc, ◌+◌, ◌≤◌}
use mathlib.Core.Path.{◌≡◌, refl, sym, ap, ◌∙◌}
use mathlib.Core.Bool.{Bool, true, false}
use mathlib.Core.List.{List, [], ◌∷◌, ◌++◌}
use native.Mathlib.Nat.{not-suc-le-zero, zero-add, add-zero, add_assoc}
use native.Mathlib.Numerals.{add-one}
use native.Mathlib.Omega.{arith}
use lib.Dec.{eqb}
use lib.ListN.{length, get_or, set, length-append}
use Rattle.laws.proofs.Base.{filter_append}
use borrow.Author.Tests.{eq-eqb, ne_eqb}
use mir.Syntax.{w64}
use mir.Val.{Fits}
use Rattle.model.specs.declared.Params.{Params}
use Rattle.model.specs.Base.{each_below, filter}
use Rattle.model.specs.Params.{good_params, block_at, abandoned, available, unswept, consumed, local_sets}
use Rattle.model.specs.Tables.{Words}
use Rattle.model.specs.BlockList.{remove, append}
use Rattle.model.specs.Block.{state_unallocated, state_unmarked, clear_block}
use Rattle.model.specs.Events.{Event, released, event_heap, events_heap, is_sweep, is_release, sweeps, releases}
use Rattle.model.specs.Global.{Freed, freed, after_release, release_from, release_blocks, append_to, left_unswept, release_bin, release_holder, abandon_blocks, sweep_later_bin, sweep_later}
use Rattle.laws.proofs.Params.{good_bounds}
use Rattle.laws.proofs.Walks.{left_keeps, released_one, from_keeps, blocks_keep_any, bins_keep_any, later_keeps_any}
use Rattle.native_ms.specs.Released.{Out, out, total, attempt_release, released_bins}
use Rattle.native_ms.specs.Eager.{waits}
use Rattle.native_ms.proofs.Ending.{events_append, sweeps_append}

-- n more
unfoldable pub plus : ℕ → Out → Out
plus n o = out (n + o.number) o.words o.states

-- ---- one block

module _ (p : Params) (l b : ℕ) (t : Words) (s : List ℕ) {v : ℕ} (ev : v ≡ get_or s b 0) where
  pub attempt_no : (v ≡ 255 → ⊥) → out 0 t s ≡ attempt_release p l b t s
  unfolding attempt_release
  attempt_no q = rw (← ev, ne_eqb v 255 q)

  pub attempt_yes : {t₁ t₂ : Words} {s₂ : List ℕ} → v ≡ 255 → t₁ ≡ remove p l b t → t₂ ≡ clear_block b t₁ → s₂ ≡ set s b state_unallocated → out 1 t₂ s₂ ≡ attempt_release p l b t s
  unfolding attempt_release
  attempt_yes q e₁ e₂ e₃ = rw (← ev, eq-eqb v 255 q, e₂, e₁, e₃)

-- ---- the walk: what is left from here, and n before it, is the whole

plus_plus : (n m : ℕ) (o : Out) → plus (n + m) o ≡ plus n (plus m o)
unfolding plus
plus_plus n m o = ap (λ (k : ℕ). out k o.words o.states) (add_assoc n m o.number)

plus_none : (o : Out) → plus 0 o ≡ o
unfolding plus
plus_none o = ap (λ (k : ℕ). out k o.words o.states) (zero-add o.number)

more_none : (n : ℕ) (t : Words) (s : List ℕ) → out n t s ≡ plus n (total (freed t s))
unfolding plus total releases filter
more_none n t s = ap (λ (k : ℕ). out k t s) (sym (add-zero n))

total_after : (b : ℕ) (f : Freed) → total (after_release b f) ≡ plus 1 (total f)
unfolding plus total releases filter is_release
total_after b f =
    let e : suc (length (filter is_release f.events)) ≡ 1 + length (filter is_release f.events) = omega arith in
    ap (λ (k : ℕ). out k f.words f.states) e

module _ (p : Params) (l a : ℕ) (t : Words) (s : List ℕ) where
  from_none : (k : ℕ) → a ≡ 0 → release_from k p l a t s ≡ freed t s
  unfolding release_from
  from_none zero h = refl
  from_none (suc k) h = rw (eq-eqb a 0 h)

  from_over : (k : ℕ) → k ≤ 0 → release_from k p l a t s ≡ freed t s
  unfolding release_from
  from_over zero h = refl
  from_over (suc k) h = absurd (not-suc-le-zero h)

  module _ (k : ℕ) {b x : ℕ} (h : a ≡ 0 → ⊥) (eb : b ≡ block_at p a) (ex : x ≡ get_or t.next b 0) where
    from_yes : eqb (get_or s b 0) state_unmarked ≡ true → release_from (suc k) p l a t s ≡ after_release b (release_from k p l x (clear_block b (remove p l b t)) (set s b state_unallocated))
    unfolding release_from
    from_yes e = rw (ne_eqb a 0 h, ← eb, e, ex)

    from_no : eqb (get_or s b 0) state_unmarked ≡ false → release_from (suc k) p l a t s ≡ release_from k p l x t s
    unfolding release_from
    from_no e = rw (ne_eqb a 0 h, ← eb, e, ex)

  pub from_end : (k n : ℕ) → k ≤ 0 → out n t s ≡ plus n (total (release_from k p l a t s))
  from_end k n h = more_none n t s ∙ ap (λ (f : Freed). plus n (total f)) (sym (from_over k h))

  pub from_stop : (k n : ℕ) → a ≡ 0 → out n t s ≡ plus n (total (release_from k p l a t s))
  from_stop k n h = more_none n t s ∙ ap (λ (f : Freed). plus n (total f)) (sym (from_none k h))

  pub from_start : (k : ℕ) → plus 0 (total (release_from k p l a t s)) ≡ total (release_from k p l a t s)
  from_start k = plus_none (total (release_from k p l a t s))

attempt_cases : {A : Type 0} (p : Params) (l b : ℕ) (t : Words) (s : List ℕ) {o : Out} → o ≡ attempt_release p l b t s → (eqb (get_or s b 0) state_unmarked ≡ true → o ≡ out 1 (clear_block b (remove p l b t)) (set s b state_unallocated) → A) → (eqb (get_or s b 0) state_unmarked ≡ false → o ≡ out 0 t s → A) → A
unfolding attempt_release
attempt_cases {A} p l b t s {o} e on off = go (eqb (get_or s b 0) state_unmarked) refl
  where
    go : (c : Bool) → eqb (get_or s b 0) state_unmarked ≡ c → A
    go true z = on z (e ∙ rw z)
    go false z = off z (e ∙ rw z)

pub attempt_few : (p : Params) (l b : ℕ) (t : Words) (s : List ℕ) {r : ℕ} {t₁ : Words} {s₁ : List ℕ} → out r t₁ s₁ ≡ attempt_release p l b t s → r ≤ 1
attempt_few p l b t s {r} e =
    attempt_cases p l b t s e
    (λ z q. let n : r ≡ 1 = ap (λ (o : Out). o.number) q in omega arith)
    (λ z q. let n : r ≡ 0 = ap (λ (o : Out). o.number) q in omega arith)

step_at : (p : Params) (l a : ℕ) (t : Words) (s : List ℕ) (k n : ℕ) {b x r : ℕ} {t₁ : Words} {s₁ : List ℕ} → (a ≡ 0 → ⊥) → b ≡ block_at p a → x ≡ get_or t.next b 0 → out r t₁ s₁ ≡ attempt_release p l b t s → plus (n + r) (total (release_from k p l x t₁ s₁)) ≡ plus n (total (release_from (suc k) p l a t s))
step_at p l a t s k n {b} {x} {r} {t₁} {s₁} h eb ex e =
    let rest : Out → Out = λ o. plus (n + o.number) (total (release_from k p l x o.words o.states)) in
    attempt_cases p l b t s e
    (λ z q.
    let g : Freed = release_from k p l x (clear_block b (remove p l b t)) (set s b state_unallocated) in
    ap rest q ∙ plus_plus n 1 (total g)
    ∙ ap (plus n) (sym (total_after b g))
    ∙ ap (λ (f : Freed). plus n (total f)) (sym (from_yes p l a t s k h eb ex z)))
    (λ z q.
    ap rest q ∙ ap (λ (m : ℕ). plus m (total (release_from k p l x t s))) (add-zero n)
    ∙ ap (λ (f : Freed). plus n (total f)) (sym (from_no p l a t s k h eb ex z)))

pub from_step : (p : Params) (l a : ℕ) (t : Words) (s : List ℕ) (n : ℕ) {k j b x r : ℕ} {t₁ : Words} {s₁ : List ℕ} → k ≡ suc j → (a ≡ 0 → ⊥) → b ≡ block_at p a → x ≡ get_or t.next b 0 → out r t₁ s₁ ≡ attempt_release p l b t s → plus (n + r) (total (release_from j p l x t₁ s₁)) ≡ plus n (total (release_from k p l a t s))
from_step p l a t s n {j = j} ek h eb ex e = rw ek (step_at p l a t s j n h eb ex e)

-- the walk starts at the list's first block
pub from_at : (p : Params) (l : ℕ) (t : Words) (s : List ℕ) {a : ℕ} → a ≡ get_or t.first l 0 → total (release_from p.blocks p l a t s) ≡ total (release_from p.blocks p l (get_or t.first l 0) t s)
from_at p l t s e = ap (λ (k : ℕ). total (release_from p.blocks p l k t s)) e

-- ---- what appends events: it goes by words and states alone, and its events come behind those before

unfoldable pub Appends : (Freed → Freed) → Type 0
Appends F = (f : Freed) → total (F f) ≡ plus (releases f.events) (total (F (freed f.words f.states)))

pub releases_append : (es fs : List Event) → releases (es ++ fs) ≡ releases es + releases fs
unfolding releases
releases_append es fs = ap length (filter_append is_release es fs) ∙ length-append (filter is_release es) (filter is_release fs)

appends_blocks : (p : Params) (l : ℕ) → Appends (release_blocks p l)
unfolding Appends plus total release_blocks
appends_blocks p l f =
    let g : Freed = release_from p.blocks p l (get_or f.words.first l 0) f.words f.states in
    ap (λ (k : ℕ). out k g.words g.states) (releases_append f.events g.events)

appends_append : (p : Params) (l o : ℕ) → Appends (append_to p l o)
unfolding Appends plus total append_to releases filter
appends_append p l o f =
    ap (λ (k : ℕ). out k (append p l o f.words) f.states) (sym (add-zero (length (filter is_release f.events))))

appends_left : (p : Params) (l o : ℕ) → Appends (left_unswept p l o)
unfolding Appends left_unswept total
appends_left p l o f = go p.eager
  where
    go : (on : Bool) → total (if on then f else append_to p l o f)
        ≡ plus (releases f.events) (total (if on then freed f.words f.states else append_to p l o (freed f.words f.states)))
    go true = more_none (releases f.events) f.words f.states
    go false = appends_append p l o f

appends_both : (F G : Freed → Freed) → Appends F → Appends G → Appends (λ f. G (F f))
unfolding Appends plus total
appends_both F G a b f =
    let f₀ : Freed = freed f.words f.states in
    let x : Freed = F f in
    let y : Freed = F f₀ in
    let e = a f in
    let n : releases x.events ≡ releases f.events + releases y.events = ap (λ (o : Out). o.number) e in
    let w : x.words ≡ y.words = ap (λ (o : Out). o.words) e in
    let s : x.states ≡ y.states = ap (λ (o : Out). o.states) e in
    b x ∙ ap (λ (k : ℕ). plus k (total (G (freed x.words x.states)))) n
    ∙ ap (λ (u : Words). plus (releases f.events + releases y.events) (total (G (freed u x.states)))) w
    ∙ ap (λ (u : List ℕ). plus (releases f.events + releases y.events) (total (G (freed y.words u)))) s
    ∙ plus_plus (releases f.events) (releases y.events) (total (G (freed y.words y.states)))
    ∙ ap (plus (releases f.events)) (sym (b y))

-- from what was shown before, and a step from there
pub shows_next : (F : Freed → Freed) (f : Freed) {n r : ℕ} {t t₁ : Words} {s s₁ : List ℕ} → Appends F → out n t s ≡ total f → out r t₁ s₁ ≡ total (F (freed t s)) → out (n + r) t₁ s₁ ≡ total (F f)
unfolding Appends plus total
shows_next F f {n} {r} {t} {t₁} {s} {s₁} a e q =
    let en : n ≡ releases f.events = ap (λ (o : Out). o.number) e in
    let ew : t ≡ f.words = ap (λ (o : Out). o.words) e in
    let es : s ≡ f.states = ap (λ (o : Out). o.states) e in
    ap (plus n) q
    ∙ ap (λ (k : ℕ). plus k (total (F (freed t s)))) en
    ∙ ap (λ (u : Words). plus (releases f.events) (total (F (freed u s)))) ew
    ∙ ap (λ (u : List ℕ). plus (releases f.events) (total (F (freed f.words u)))) es
    ∙ sym (a f)

pub shows_none : (t : Words) (s : List ℕ) → out 0 t s ≡ total (freed t s)
unfolding total releases filter
shows_none t s = refl

shows_first : (p : Params) (l : ℕ) (t : Words) (s : List ℕ) {o : Out} → o ≡ total (release_from p.blocks p l (get_or t.first l 0) t s) → o ≡ total (release_blocks p l (freed t s))
unfolding total release_blocks
shows_first p l t s e = e

shows_blocks : (p : Params) (l : ℕ) (f : Freed) {n r : ℕ} {t t₁ : Words} {s s₁ : List ℕ} → out n t s ≡ total f → out r t₁ s₁ ≡ total (release_from p.blocks p l (get_or t.first l 0) t s) → out (n + r) t₁ s₁ ≡ total (release_blocks p l f)
shows_blocks p l f {t = t} {s = s} e q = shows_next (release_blocks p l) f (appends_blocks p l) e (shows_first p l t s q)

shows_append : (p : Params) (l o : ℕ) (f : Freed) {n : ℕ} {t t₁ : Words} {s : List ℕ} → out n t s ≡ total f → t₁ ≡ append p l o t → out n t₁ s ≡ total (append_to p l o f)
unfolding total append_to
shows_append p l o f {n} {t} {t₁} {s} e q =
    ap (λ (u : Words). out n u s) q ∙ ap (λ (x : Out). out x.number (append p l o x.words) x.states) e

-- or nothing is appended
module _ (p : Params) (l o : ℕ) (t : Words) where
  pub waits_none : p.eager ≡ true → t ≡ waits p l o t
  unfolding waits
  waits_none z = rw z

  pub waits_append : {t₁ : Words} → p.eager ≡ false → t₁ ≡ append p l o t → t₁ ≡ waits p l o t
  unfolding waits
  waits_append z e = e ∙ rw z

shows_left : (p : Params) (l o : ℕ) (f : Freed) {n : ℕ} {t t₁ : Words} {s : List ℕ} → out n t s ≡ total f → t₁ ≡ waits p l o t → out n t₁ s ≡ total (left_unswept p l o f)
unfolding waits left_unswept
shows_left p l o f {n} {t} {t₁} {s} e q = go p.eager q
  where
    go : (on : Bool) → t₁ ≡ (if on then t else append p l o t) → out n t₁ s ≡ total (if on then f else append_to p l o f)
    go true y = ap (λ (u : Words). out n u s) y ∙ e
    go false y = shows_append p l o f e y

-- ---- one bin

module _ (p : Params) (owner bin : ℕ) {a u c : ℕ} (t : Words) (s : List ℕ) (ea : a ≡ available owner bin) (eu : u ≡ unswept owner bin) (ec : c ≡ consumed owner bin) where
  pub bin_total : {n m : ℕ} {t₁ t₂ t₃ t₄ : Words} {s₁ s₃ : List ℕ} → out n t₁ s₁ ≡ total (release_from p.blocks p a (get_or t.first a 0) t s) → t₂ ≡ waits p u a t₁ → out m t₃ s₃ ≡ total (release_from p.blocks p c (get_or t₂.first c 0) t₂ s₁) → t₄ ≡ waits p u c t₃ → out (n + m) t₄ s₃ ≡ total (release_bin p owner bin (freed t s))
  unfolding release_bin
  bin_total e₁ e₂ e₃ e₄ =
      let f₁ : Freed = release_blocks p a (freed t s) in
      let f₂ : Freed = left_unswept p u a f₁ in
      let f₃ : Freed = release_blocks p c f₂ in
      rw (← ea, ← eu, ← ec)
      (shows_left p u c f₃ (shows_blocks p c f₂ (shows_left p u a f₁ (shows_first p a t s e₁) e₂) e₃) e₄)

appends_bin : (p : Params) (owner bin : ℕ) → Appends (release_bin p owner bin)
unfolding release_bin
appends_bin p owner bin =
    let a = available owner bin in
    let u = unswept owner bin in
    let c = consumed owner bin in
    appends_both (λ f. release_blocks p c (left_unswept p u a (release_blocks p a f))) (left_unswept p u c)
    (appends_both (λ f. left_unswept p u a (release_blocks p a f)) (release_blocks p c)
    (appends_both (release_blocks p a) (left_unswept p u a) (appends_blocks p a) (appends_left p u a))
    (appends_blocks p c))
    (appends_left p u c)

module _ (p : Params) (bin : ℕ) {a u c : ℕ} (t : Words) (s : List ℕ) (ea : a ≡ available abandoned bin) (eu : u ≡ unswept abandoned bin) (ec : c ≡ consumed abandoned bin) where
  pub later_total : {n m o : ℕ} {t₁ t₂ t₃ t₄ t₅ : Words} {s₁ s₂ s₃ : List ℕ} → out n t₁ s₁ ≡ total (release_from p.blocks p a (get_or t.first a 0) t s) → out m t₂ s₂ ≡ total (release_from p.blocks p c (get_or t₁.first c 0) t₁ s₁) → out o t₃ s₃ ≡ total (release_from p.blocks p u (get_or t₂.first u 0) t₂ s₂) → t₄ ≡ waits p u a t₃ → t₅ ≡ waits p u c t₄ → out (n + m + o) t₅ s₃ ≡ total (sweep_later_bin p bin (freed t s))
  unfolding sweep_later_bin
  later_total e₁ e₂ e₃ e₄ e₅ =
      let f₁ : Freed = release_blocks p a (freed t s) in
      let f₂ : Freed = release_blocks p c f₁ in
      let f₃ : Freed = release_blocks p u f₂ in
      let f₄ : Freed = left_unswept p u a f₃ in
      rw (← ea, ← eu, ← ec)
      (shows_left p u c f₄
      (shows_left p u a f₃ (shows_blocks p u f₂ (shows_blocks p c f₁ (shows_first p a t s e₁) e₂) e₃) e₄) e₅)

appends_later : (p : Params) (bin : ℕ) → Appends (sweep_later_bin p bin)
unfolding sweep_later_bin
appends_later p bin =
    let a = available abandoned bin in
    let u = unswept abandoned bin in
    let c = consumed abandoned bin in
    let rb = release_blocks p in
    appends_both (λ f. left_unswept p u a (rb u (rb c (rb a f)))) (left_unswept p u c)
    (appends_both (λ f. rb u (rb c (rb a f))) (left_unswept p u a)
    (appends_both (λ f. rb c (rb a f)) (rb u)
    (appends_both (rb a) (rb c) (appends_blocks p a) (appends_blocks p c))
    (appends_blocks p u))
    (appends_left p u a))
    (appends_left p u c)

-- ---- all bins

module _ (p : Params) (owner i : ℕ) (t₀ : Words) (s₀ : List ℕ) where
  pub bins_more : {n r : ℕ} {t t₁ : Words} {s s₁ : List ℕ} → out n t s ≡ total (released_bins p owner i t₀ s₀) → out r t₁ s₁ ≡ total (release_bin p owner i (freed t s)) → out (n + r) t₁ s₁ ≡ total (released_bins p owner (i + 1) t₀ s₀)
  unfolding released_bins each_below
  bins_more e q =
      rw (add-one i) (shows_next (release_bin p owner i) (each_below i (release_bin p owner) (freed t₀ s₀)) (appends_bin p owner i) e q)

pub bins_none : (p : Params) (owner : ℕ) (t : Words) (s : List ℕ) → out 0 t s ≡ total (released_bins p owner 0 t s)
unfolding released_bins each_below
bins_none p owner t s = shows_none t s

-- the bins below n of the shared part
unfoldable pub later_bins : Params → ℕ → Words → List ℕ → Freed
later_bins p n t s = each_below n (sweep_later_bin p) (freed t s)

module _ (p : Params) (i : ℕ) (t₀ : Words) (s₀ : List ℕ) where
  pub later_more : {n r : ℕ} {t t₁ : Words} {s s₁ : List ℕ} → out n t s ≡ total (later_bins p i t₀ s₀) → out r t₁ s₁ ≡ total (sweep_later_bin p i (freed t s)) → out (n + r) t₁ s₁ ≡ total (later_bins p (i + 1) t₀ s₀)
  unfolding later_bins each_below
  later_more e q =
      rw (add-one i) (shows_next (sweep_later_bin p i) (each_below i (sweep_later_bin p) (freed t₀ s₀)) (appends_later p i) e q)

  pub later_end : {o : Out} → i ≤ 49 → 49 ≤ i → o ≡ total (later_bins p i t₀ s₀) → o ≡ total (sweep_later p t₀ s₀)
  unfolding later_bins sweep_later
  later_end l h e = let q : i ≡ 49 = omega arith in e ∙ ap (λ (k : ℕ). total (each_below k (sweep_later_bin p) (freed t₀ s₀))) q

pub later_none : (p : Params) (t : Words) (s : List ℕ) → out 0 t s ≡ total (later_bins p 0 t s)
unfolding later_bins each_below
later_none p t s = shows_none t s

pub holder_total : (p : Params) (h : ℕ) {owner n : ℕ} (t : Words) (s : List ℕ) {t₁ t₂ : Words} {s₁ : List ℕ} → owner ≡ local_sets h → out n t₁ s₁ ≡ total (released_bins p owner 49 t s) → t₂ ≡ abandon_blocks p 27 owner t₁ → out n t₂ s₁ ≡ total (release_holder p h t s)
unfolding release_holder released_bins total
holder_total p h {owner} {n} t s {t₁} {t₂} {s₁} eo e q =
    rw (← eo)
    (ap (λ (u : Words). out n u s₁) q ∙ ap (λ (x : Out). out x.number (abandon_blocks p 27 owner x.words) x.states) e)

-- ---- counts are small

count_one : (es : List Event) (b : ℕ) → releases (es ++ (released b ∷ [])) ≡ releases es + 1
unfolding releases filter is_release
count_one es b = releases_append es (released b ∷ [])

few_none : (k : ℕ) (t : Words) (s : List ℕ) → releases (freed t s).events ≤ k
unfolding releases filter
few_none k t s = omega arith

-- as many as the walk may still pass are still to come
from_few : (k : ℕ) (p : Params) (l a : ℕ) (t : Words) (s : List ℕ) → releases (release_from k p l a t s).events ≤ k
from_few k p l a t s =
    from_keeps p l (λ j b f. releases f.events + j ≤ k) (λ j b f o some u. omega (arith, o, count_one f.events (block_at p b)))
    (λ j b f o some. omega (arith, o)) (λ f. releases f.events ≤ k) (λ j b f o. omega (arith, o)) k a (freed t s) (omega (arith, few_none 0 t s))

blocks_few : (k : ℕ) (p : Params) (l a : ℕ) (t : Words) (s : List ℕ) {r : ℕ} {t₁ : Words} {s₁ : List ℕ}
    → out r t₁ s₁ ≡ total (release_from k p l a t s) → r ≤ k
unfolding total
blocks_few k p l a t s {r} e =
    let n : r ≡ releases (release_from k p l a t s).events = ap (λ (o : Out). o.number) e in
    omega (arith, from_few k p l a t s)

pub blocks_low : (p : Params) → good_params p ≡ true
    → (l a : ℕ) (t : Words) (s : List ℕ) {r : ℕ} {t₁ : Words} {s₁ : List ℕ}
    → out r t₁ s₁ ≡ total (release_from p.blocks p l a t s) → r ≤ 1024
blocks_low p g l a t s e = omega (arith, blocks_few p.blocks p l a t s e, (good_bounds p g).blocks_high)

-- sums of a bin fit a word
pub two_fit : {m n : ℕ} → m ≤ 1024 → n ≤ 1024 → Fits w64 (m + n)
two_fit h l = omega arith

pub three_fit : {m n o : ℕ} → m ≤ 1024 → n ≤ 1024 → o ≤ 1024 → Fits w64 (m + n + o)
three_fit h l k = omega arith

-- what adds at most k
unfoldable pub AddsAtMost : ℕ → (Freed → Freed) → Type 0
AddsAtMost k F = (f : Freed) → releases (F f).events ≤ releases f.events + k

few_blocks : (p : Params) (l : ℕ) → AddsAtMost p.blocks (release_blocks p l)
unfolding AddsAtMost release_blocks
few_blocks p l f =
    let g : Freed = release_from p.blocks p l (get_or f.words.first l 0) f.words f.states in
    omega (arith, releases_append f.events g.events, from_few p.blocks p l (get_or f.words.first l 0) f.words f.states)

few_append : (p : Params) (l o : ℕ) → AddsAtMost 0 (append_to p l o)
unfolding AddsAtMost append_to
few_append p l o f = omega arith

few_left : (p : Params) (l o : ℕ) → AddsAtMost 0 (left_unswept p l o)
unfolding AddsAtMost
few_left p l o f = left_keeps p (λ g. releases g.events ≤ releases f.events + 0) l o f (omega arith) (few_append p l o f)

few_both : (j k : ℕ) (F G : Freed → Freed) → AddsAtMost j F → AddsAtMost k G → AddsAtMost (j + k) (λ f. G (F f))
unfolding AddsAtMost
few_both j k F G a b f = omega (arith, a f, b (F f))

few_bin : (p : Params) (owner bin : ℕ) → AddsAtMost (p.blocks + 0 + p.blocks + 0) (release_bin p owner bin)
unfolding release_bin
few_bin p owner bin =
    let a = available owner bin in
    let u = unswept owner bin in
    let c = consumed owner bin in
    few_both (p.blocks + 0 + p.blocks) 0 (λ f. release_blocks p c (left_unswept p u a (release_blocks p a f))) (left_unswept p u c)
    (few_both (p.blocks + 0) p.blocks (λ f. left_unswept p u a (release_blocks p a f)) (release_blocks p c)
    (few_both p.blocks 0 (release_blocks p a) (left_unswept p u a) (few_blocks p a) (few_left p u a))
    (few_blocks p c))
    (few_left p u c)

few_later : (p : Params) (bin : ℕ) → AddsAtMost (p.blocks + p.blocks + p.blocks + 0 + 0) (sweep_later_bin p bin)
unfolding sweep_later_bin
few_later p bin =
    let a = available abandoned bin in
    let u = unswept abandoned bin in
    let c = consumed abandoned bin in
    let rb = release_blocks p in
    few_both (p.blocks + p.blocks + p.blocks + 0) 0 (λ f. left_unswept p u a (rb u (rb c (rb a f)))) (left_unswept p u c)
    (few_both (p.blocks + p.blocks + p.blocks) 0 (λ f. rb u (rb c (rb a f))) (left_unswept p u a)
    (few_both (p.blocks + p.blocks) p.blocks (λ f. rb c (rb a f)) (rb u)
    (few_both p.blocks p.blocks (rb a) (rb c) (few_blocks p a) (few_blocks p c))
    (few_blocks p u))
    (few_left p u a))
    (few_left p u c)

few_of : (k : ℕ) (F : Freed → Freed) → AddsAtMost k F → (t : Words) (s : List ℕ) {r : ℕ} {t₁ : Words} {s₁ : List ℕ} → out r t₁ s₁ ≡ total (F (freed t s)) → r ≤ k
unfolding AddsAtMost total
few_of k F a t s {r} e =
    let n : r ≡ releases (F (freed t s)).events = ap (λ (o : Out). o.number) e in
    omega (arith, a (freed t s), few_none 0 t s)

pub bin_few : (p : Params) (owner bin : ℕ) (t : Words) (s : List ℕ) {r : ℕ} {t₁ : Words} {s₁ : List ℕ} → p.blocks ≤ 1024 → out r t₁ s₁ ≡ total (release_bin p owner bin (freed t s)) → r ≤ 3072
bin_few p owner bin t s h e = omega (arith, few_of _ (release_bin p owner bin) (few_bin p owner bin) t s e)

pub later_few : (p : Params) (bin : ℕ) (t : Words) (s : List ℕ) {r : ℕ} {t₁ : Words} {s₁ : List ℕ} → p.blocks ≤ 1024 → out r t₁ s₁ ≡ total (sweep_later_bin p bin (freed t s)) → r ≤ 3072
later_few p bin t s h e = omega (arith, few_of _ (sweep_later_bin p bin) (few_later p bin) t s e)

-- ---- releases leave the heap alone, and sweep nothing

pub record Quiet (p : Params) (es : List Event) : Type 0 where
  pub heap : (h : List ℕ) → events_heap p es h ≡ h
  pub none : sweeps es ≡ 0

quiet_one : (p : Params) (l b : ℕ) (f : Freed) → Quiet p f.events → Quiet p (released_one p l b f).events
unfolding events_heap event_heap sweeps filter is_sweep
quiet_one p l b f q =
    record {
      heap = λ h. events_append p f.events (released b ∷ []) h ∙ q.heap h;
      none = sweeps_append f.events (released b ∷ []) ∙ ap (λ (n : ℕ). n + 0) q.none;
    }

quiet_blocks : (p : Params) (l : ℕ) (f : Freed) → Quiet p f.events → Quiet p (release_blocks p l f).events
quiet_blocks p l = blocks_keep_any p l (λ f. Quiet p f.events) (λ b f q u. quiet_one p l b f q)

quiet_to : (p : Params) (l o : ℕ) (f : Freed) → Quiet p f.events → Quiet p (append_to p l o f).events
unfolding append_to
quiet_to p l o f q = q

quiet_none : (p : Params) (t : Words) (s : List ℕ) → Quiet p (freed t s).events
unfolding events_heap sweeps filter
quiet_none p t s = record { heap = λ h. refl; none = refl }

pub quiet_holder : (p : Params) (h : ℕ) (t : Words) (s : List ℕ) → Quiet p (release_holder p h t s).events
unfolding release_holder
quiet_holder p h t s = bins_keep_any p (λ f. Quiet p f.events) (quiet_blocks p) (quiet_to p) (local_sets h) (freed t s) (quiet_none p t s)

pub quiet_shared : (p : Params) (t : Words) (s : List ℕ) → Quiet p (sweep_later p t s).events
unfolding sweep_later
quiet_shared p t s = later_keeps_any p (λ f. Quiet p f.events) (quiet_blocks p) (quiet_to p) (freed t s) (quiet_none p t s)
