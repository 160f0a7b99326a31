-- The whole search and the end of a call that serves: one law for each way out. Plain values alone stand here. Assumes nothing.
use Rattle.std.specs.Prelude.{if◌then◌else◌, Option, None, Some}
use Prim.Native.Nat.{ℕ, zero, suc, ◌+◌, ◌^◌, ◌<◌}
use mathlib.Core.Path.{◌≡◌, refl, sym, ap, ◌∙◌}
use mathlib.Core.Bool.{Bool, true, false}
use mathlib.Core.List.{List, [], ◌∷◌, ◌++◌, append_assoc, append-nil}
use native.Mathlib.Nat.{add-zero, zero-add, add_assoc}
use native.Mathlib.Omega.{arith}
use lib.Dec.{eqb}
use lib.ListN.{length, get_or, set, length-append}
use borrow.Author.Tests.{eq-eqb, ne_eqb}
use Rattle.model.specs.declared.Params.{Params}
use Rattle.model.specs.declared.Block.{Block}
use Rattle.model.specs.Base.{filter, flag}
use Rattle.model.specs.Params.{good_params, start, block_at, local_sets, available, consumed}
use Rattle.model.specs.Tables.{Words, Tables, tables_of, with_words}
use Rattle.model.specs.SizeClasses.{cell_bytes, align_allocation}
use Rattle.model.specs.BlockList.{Popped, popped, push}
use Rattle.model.specs.Block.{state_unmarked, link_all, init_chain, init_block}
use Rattle.model.specs.Events.{Event, initialised, event_heap, events_heap, is_sweep, sweeps}
use Rattle.model.specs.FreeListAllocator.{Found, found, followed_by, Search, in_found, find_free_block_with, recycle_local_blocks, acquire_abandoned, acquire_fresh, find_block}
use Rattle.model.specs.Calls.{answered, exhausted, says, takes, take_plan, take_cell, finish, Step}
use Rattle.laws.proofs.Base.{filter_append, if_cases}
use Rattle.laws.proofs.Params.{good_bounds}
use Rattle.native_ms.specs.Block.{TakenOut, took, take_free}
use Rattle.native_ms.specs.declared.block.Taken.{Taken}
use Rattle.native_ms.specs.Closing.{skimmed, Reached, reached, closed, Searched}
use Rattle.native_ms.proofs.TakeCell.{took_cell}
use Rattle.native_ms.proofs.Heads.{Low, find_low}
use Rattle.native_ms.specs.Ending.{Ended, ended, closed_search, acquire_global, Freshened, Stepped, stepped, shown, ServedBy}
use Rattle.native_ms.specs.Places.{HasFree}
use Rattle.native_ms.proofs.Search.{skim_found}

-- ---- events one after the other

pub events_append : (p : Params) (es ds : List Event) (h : List ℕ) → events_heap p (es ++ ds) h ≡ events_heap p ds (events_heap p es h)
unfolding events_heap
events_append p [] ds h = refl
events_append p (e ∷ es) ds h = events_append p es ds (event_heap p e h)

pub sweeps_append : (es ds : List Event) → sweeps (es ++ ds) ≡ sweeps es + sweeps ds
unfolding sweeps
sweeps_append es ds = ap length (filter_append is_sweep es ds) ∙ length-append (filter is_sweep es) (filter is_sweep ds)

-- a search of these events went on where others had happened
then_ended : (p : Params) (n : ℕ) (h : List ℕ) (es ds : List Event) (a : ℕ) (f : Bool) (t : Tables)
    → ended a (n + sweeps es + sweeps ds) f t (events_heap p ds (events_heap p es h)) ≡ ended a (n + sweeps (es ++ ds)) f t (events_heap p (es ++ ds) h)
then_ended p n h es ds a f t = rw (sweeps_append es ds, events_append p es ds h, add_assoc)

init_sweeps : (b : ℕ) (chain : List ℕ) → sweeps (initialised b chain ∷ []) ≡ 0
unfolding sweeps filter is_sweep
init_sweeps b chain = refl

init_heap : (p : Params) (b : ℕ) (chain h : List ℕ) → events_heap p (initialised b chain ∷ []) h ≡ link_all p chain h
unfolding events_heap event_heap
init_heap p b chain h = refl

-- an init at the end
init_ended : (p : Params) (n : ℕ) (h : List ℕ) (es : List Event) (b : ℕ) (chain : List ℕ) (a : ℕ) (t : Tables)
    → ended a (n + sweeps es) true t (link_all p chain (events_heap p es h)) ≡ ended a (n + sweeps (es ++ (initialised b chain ∷ []))) true t (events_heap p (es ++ (initialised b chain ∷ [])) h)
init_ended p n h es b chain a t =
    rw (sweeps_append es (initialised b chain ∷ []), events_append p es (initialised b chain ∷ []) h, init_sweeps b chain, init_heap p b chain (events_heap p es h), add-zero (sweeps es))

-- ---- blocks from outside the holder's lists

module _ (p : Params) (holder bin n : ℕ) (t : Words) (st ms h : List ℕ) {v s : ℕ} {t₁ : Words} {h₁ : List ℕ} (e : reached v s t₁ h₁ ≡ closed p n h (acquire_abandoned p.blocks p ms holder bin t)) where
  abbrev a : Found
  a = acquire_abandoned p.blocks p ms holder bin t

  at_same : v ≡ a.at
  at_same = ap (λ (k : Reached). k.at) e

  pub global_found : (offer : Option Block) → (v ≡ 0 → ⊥) → ended v s false (tables_of t₁ st ms) h₁ ≡ closed_search p n h (acquire_global p holder bin offer (tables_of t st ms))
  unfolding acquire_global
  global_found offer nz =
      rw (ne_eqb a.at 0 (λ q. nz (at_same ∙ q))) (ap (λ (k : Reached). ended k.at k.swept false (tables_of k.words st ms) k.heap) e)

  module _ (z : v ≡ 0) where
    none : eqb a.at 0 ≡ true
    none = eq-eqb a.at 0 (sym at_same ∙ z)

    pub global_none : (offer : Option Block) → offer ≡ None → ended 0 s false (tables_of t₁ st ms) h₁ ≡ closed_search p n h (acquire_global p holder bin offer (tables_of t st ms))
    unfolding acquire_global acquire_fresh
    global_none offer eo =
        rw (eo, none) (ap (λ (x : ℕ). ended x s false (tables_of t₁ st ms) h₁) (sym z) ∙ ap (λ (k : Reached). ended k.at k.swept false (tables_of k.words st ms) k.heap) e)

    pub global_fresh : {x : ℕ} {t₂ : Words} {st₂ h₂ : List ℕ} (offer : Option Block) (b : Block) → offer ≡ Some b → Freshened p holder bin b.0 t₁ st h₁ t₂ st₂ h₂ → x ≡ start p b.0
        → ended x s true (tables_of t₂ st₂ ms) h₂ ≡ closed_search p n h (acquire_global p holder bin offer (tables_of t st ms))
    unfolding acquire_global acquire_fresh
    global_fresh offer b eo f ex =
        rw (eo, none, ex, f.words, f.states, f.heap)
        (ap (λ (k : Reached). ended (start p b.0) k.swept true (made k.words) (link_all p chain k.heap)) e
        ∙ init_ended p n h a.events b.0 chain (start p b.0) (made a.words))
      where
        chain : List ℕ
        chain = init_chain p b.0 (cell_bytes p bin)

        made : Words → Tables
        made w = tables_of (init_block p b.0 (cell_bytes p bin) holder (push p (available (local_sets holder) bin) b.0 w)) (set st b.0 state_unmarked) ms

-- ---- the skim moves blocks and does nothing else: the code sees none of its events

module _ (p : Params) (a c : ℕ) where
  skim_sweeps : (k : ℕ) (t : Words) → sweeps (find_free_block_with k p a c t).events ≡ 0
  unfolding find_free_block_with sweeps filter is_sweep
  skim_sweeps zero t = refl
  skim_sweeps (suc k) t =
      if_cases (λ (f : Found). length (filter is_sweep f.events) ≡ 0) (eqb (get_or t.first a 0) 0) (λ e. refl)
      (λ e. if_cases (λ (f : Found). length (filter is_sweep f.events) ≡ 0) (eqb (get_or t.free (block_at p (get_or t.first a 0)) 0) 0)
      (λ z. skim_sweeps k _) (λ z. refl))

  skim_heap : (k : ℕ) (t : Words) (h : List ℕ) → events_heap p (find_free_block_with k p a c t).events h ≡ h
  unfolding find_free_block_with events_heap event_heap
  skim_heap zero t h = refl
  skim_heap (suc k) t h =
      if_cases (λ (f : Found). events_heap p f.events h ≡ h) (eqb (get_or t.first a 0) 0) (λ e. refl)
      (λ e. if_cases (λ (f : Found). events_heap p f.events h ≡ h) (eqb (get_or t.free (block_at p (get_or t.first a 0)) 0) 0)
      (λ z. skim_heap k _ h) (λ z. refl))

-- `find_block`, once its skim gave s
after_skim : Params → ℕ → ℕ → Option Block → Tables → Found → Search
after_skim p holder bin offer t s =
    let f : Found = followed_by s (recycle_local_blocks p.blocks p t.marks (local_sets holder) bin s.words) in
    let d : Found = followed_by f (acquire_abandoned p.blocks p t.marks holder bin f.words) in
    if eqb s.at 0
    then (if eqb f.at 0 then (if eqb d.at 0 then acquire_fresh p holder bin offer d t else in_found d t)
    else in_found f t)
    else in_found s t

-- events put before those of a search
fronted : List Event → Search → Search
fronted es s = record { at = s.at; fresh = s.fresh; tables = s.tables; events = es ++ s.events }

-- the skim's events come before all others
skim_first : (p : Params) (holder bin : ℕ) (offer : Option Block) (t : Tables) (v : ℕ) (w : Words) (es : List Event)
    → after_skim p holder bin offer t (record { at = v; words = w; events = es }) ≡ fronted es (after_skim p holder bin offer t (found v w))
unfolding after_skim fronted acquire_fresh
skim_first p holder bin offer t v w es = go (eqb v 0) (eqb f.at 0) (eqb d.at 0) offer
  where
    f : Found
    f = recycle_local_blocks p.blocks p t.marks (local_sets holder) bin w

    d : Found
    d = acquire_abandoned p.blocks p t.marks holder bin f.words

    s : Found
    s = record { at = v; words = w; events = es }

    ends : Bool → Bool → Bool → Option Block → Found → Search
    ends x y z o s' =
        if x then (if y then (if z then acquire_fresh p holder bin o (followed_by (followed_by s' f) d) t else in_found (followed_by (followed_by s' f) d) t)
        else in_found (followed_by s' f) t)
        else in_found s' t

    both : List Event → Search
    both x = record { at = d.at; fresh = false; tables = with_words d.words t; events = x }

    go : (x y z : Bool) (o : Option Block) → ends x y z o s ≡ fronted es (ends x y z o (found v w))
    go false y z o = ap (λ (x : List Event). record { at = v; fresh = false; tables = with_words w t; events = x }) (sym (append-nil es))
    go true false z o = refl
    go true true false o = ap both (append_assoc es f.events d.events)
    go true true true None = ap both (append_assoc es f.events d.events)
    go true true true (Some b) =
        ap (λ (x : List Event). record { at = start p b.0; fresh = true; tables = made; events = x })
        (ap (λ (x : List Event). x ++ init) (append_assoc es f.events d.events) ∙ append_assoc es (f.events ++ d.events) init)
      where
        init : List Event
        init = initialised b.0 (init_chain p b.0 (cell_bytes p bin)) ∷ []

        made : Tables
        made = tables_of (init_block p b.0 (cell_bytes p bin) holder (push p (available (local_sets holder) bin) b.0 d.words)) (set t.states b.0 state_unmarked) t.marks

-- so the code sees the search as if it had none
skim_unseen : (p : Params) (h : List ℕ) (es : List Event) → sweeps es ≡ 0 → events_heap p es h ≡ h → (s : Search)
    → closed_search p 0 h (fronted es s) ≡ closed_search p 0 h s
unfolding fronted
skim_unseen p h es none still s =
    let count : 0 + sweeps (es ++ s.events) ≡ 0 + sweeps s.events = omega (arith, sweeps_append es s.events, none) in
    let left : events_heap p (es ++ s.events) h ≡ events_heap p s.events h = events_append p es s.events h ∙ ap (events_heap p s.events) still in
    λ i. ended s.at (count i) s.fresh s.tables (left i)

-- ---- the whole search

module _ (p : Params) (holder bin : ℕ) (offer : Option Block) (t : Words) (st ms h : List ℕ) {o a c v : ℕ} {t₁ : Words} (eo : o ≡ local_sets holder) (ea : a ≡ available o bin) (ec : c ≡ consumed o bin) (e : popped v t₁ ≡ skimmed (find_free_block_with p.blocks p a c t)) where
  find_is : closed_search p 0 h (after_skim p holder bin offer (tables_of t st ms) (found v t₁)) ≡ closed_search p 0 h (find_block p holder bin offer (tables_of t st ms))
  unfolding find_block after_skim
  find_is =
      ap (λ (x : Popped). closed_search p 0 h (after_skim p holder bin offer (tables_of t st ms) (found x.at x.words))) here
      ∙ sym (ap (closed_search p 0 h) (skim_first p holder bin offer (tables_of t st ms) g.at g.words g.events)
      ∙ skim_unseen p h g.events (skim_sweeps p _ _ p.blocks t) (skim_heap p _ _ p.blocks t h) (after_skim p holder bin offer (tables_of t st ms) (found g.at g.words)))
    where
      g : Found
      g = find_free_block_with p.blocks p (available (local_sets holder) bin) (consumed (local_sets holder) bin) t

      here : popped v t₁ ≡ popped g.at g.words
      here =
          e ∙ λ i. skimmed (find_free_block_with p.blocks p ((ea ∙ ap (λ (x : ℕ). available x bin) eo) i) ((ec ∙ ap (λ (x : ℕ). consumed x bin) eo) i) t)

  pub find_skimmed : (v ≡ 0 → ⊥) → ended v 0 false (tables_of t₁ st ms) h ≡ closed_search p 0 h (find_block p holder bin offer (tables_of t st ms))
  unfolding after_skim events_heap sweeps filter
  find_skimmed z = rw (ne_eqb v 0 z) at find_is

  module _ (z : v ≡ 0) {x s : ℕ} {t₂ : Words} {h₂ : List ℕ} (r : Searched p.blocks (reached x s t₂ h₂) (closed p 0 h (recycle_local_blocks p.blocks p ms o bin t₁))) where
    abbrev f : Found
    f = recycle_local_blocks p.blocks p ms o bin t₁

    recycled_at : x ≡ f.at
    recycled_at = ap (λ (k : Reached). k.at) r.same

    pub find_recycled : (x ≡ 0 → ⊥) → ended x s false (tables_of t₂ st ms) h₂ ≡ closed_search p 0 h (find_block p holder bin offer (tables_of t st ms))
    unfolding after_skim
    find_recycled nz =
        ap (λ (k : Reached). ended k.at k.swept false (tables_of k.words st ms) k.heap) r.same
        ∙ rw (← eo, eq-eqb v 0 z, ne_eqb f.at 0 (λ q. nz (recycled_at ∙ q))) at find_is

    -- what is left once the holder's lists gave nothing
    d : Found
    d = acquire_abandoned p.blocks p ms holder bin f.words

    rest : Bool → Option Block → Search
    rest q w = if q then acquire_fresh p holder bin w (followed_by f d) (tables_of t st ms) else in_found (followed_by f d) (tables_of t st ms)

    rest_same : (q : Bool) (w : Option Block) → closed_search p (0 + sweeps f.events) (events_heap p f.events h) (if q then acquire_fresh p holder bin w d (tables_of f.words st ms) else in_found d (tables_of f.words st ms)) ≡ closed_search p 0 h (rest q w)
    unfolding rest acquire_fresh
    rest_same false w = then_ended p 0 h f.events d.events d.at false (tables_of d.words st ms)
    rest_same true None = then_ended p 0 h f.events d.events d.at false (tables_of d.words st ms)
    rest_same true (Some b) = rw append_assoc (then_ended p 0 h f.events (d.events ++ (initialised b.0 (init_chain p b.0 (cell_bytes p bin)) ∷ [])) (start p b.0) true _)

    pub find_global : {g : Ended} → x ≡ 0 → g ≡ closed_search p s h₂ (acquire_global p holder bin offer (tables_of t₂ st ms)) → g ≡ closed_search p 0 h (find_block p holder bin offer (tables_of t st ms))
    unfolding after_skim acquire_global rest d
    find_global y eg =
        eg ∙ ap (λ (k : Reached). closed_search p k.swept k.heap (acquire_global p holder bin offer (tables_of k.words st ms))) r.same
        ∙ rest_same (eqb d.at 0) offer
        ∙ rw (← eo, eq-eqb v 0 z, eq-eqb f.at 0 (sym recycled_at ∙ y)) at find_is

-- ---- the end

step_of : Step → Stepped
step_of f = stepped f.reply f.tables f.heap

-- how the call ends, from what the code sees of the search
end_of : Params → ℕ → ℕ → List Event → Ended → Stepped
end_of p align offset es g =
    if eqb g.at 0 then stepped (exhausted g.swept) g.tables g.heap
    else step_of (take_cell p g.tables es g.heap (block_at p g.at) align offset g.fresh)

served_end : (p : Params) (align offset : ℕ) (h : List ℕ) (s : Search) → ServedBy p align offset h s ≡ end_of p align offset s.events (closed_search p 0 h s)
unfolding ServedBy take_plan finish end_of step_of
served_end p align offset h s = go (eqb s.at 0)
  where
    hp : List ℕ
    hp = events_heap p s.events h

    b : ℕ
    b = block_at p s.at

    go : (q : Bool) → step_of (finish p s.tables s.events hp (if q then says (exhausted (sweeps s.events)) else takes b align offset s.fresh))
        ≡ (if q then stepped (exhausted (0 + sweeps s.events)) s.tables hp else step_of (take_cell p s.tables s.events hp b align offset s.fresh))
    go true = ap (λ (n : ℕ). stepped (exhausted n) s.tables hp) (sym (zero-add (sweeps s.events)))
    go false = refl

module _ (p : Params) (align offset : ℕ) (h : List ℕ) (s : Search) {v n : ℕ} {fresh : Bool} {t₁ : Words} {st₁ ms h₁ : List ℕ} (e : ended v n fresh (tables_of t₁ st₁ ms) h₁ ≡ closed_search p 0 h s) where
  from : ServedBy p align offset h s ≡ end_of p align offset s.events (ended v n fresh (tables_of t₁ st₁ ms) h₁)
  from = served_end p align offset h s ∙ sym (ap (end_of p align offset s.events) e)

  pub serve_none : v ≡ 0 → stepped (exhausted n) (tables_of t₁ st₁ ms) h₁ ≡ ServedBy p align offset h s
  unfolding end_of
  serve_none z = sym (from ∙ rw (eq-eqb v 0 z))

  module _ (nz : v ≡ 0 → ⊥) {b : ℕ} {k : Taken} {t₂ : Words} {h₂ : List ℕ} (eb : b ≡ block_at p v) (ek : took k t₂ h₂ ≡ take_free p b t₁ h₁) where
    at_cell : ServedBy p align offset h s ≡ step_of (take_cell p (tables_of t₁ st₁ ms) s.events h₁ b align offset fresh)
    unfolding end_of
    at_cell = from ∙ rw (ne_eqb v 0 nz, ← eb)

    pub serve_cell : {r : ℕ} → r ≡ align_allocation k.at.0 align offset
        → stepped (answered (r ∷ k.size ∷ flag fresh ∷ n ∷ [])) (tables_of t₂ st₁ ms) h₂ ≡ ServedBy p align offset h s
    unfolding step_of
    serve_cell er =
        let en : n ≡ sweeps s.events = ap (λ (x : Ended). x.swept) e ∙ zero-add (sweeps s.events) in
        rw (er, en) (sym (at_cell ∙ ap step_of (took_cell p (tables_of t₁ st₁ ms) s.events h₁ b align offset fresh ek)))

-- ---- the short way

pub head_cell : (p : Params) (b align offset : ℕ) (t : Words) (h : List ℕ) {k : Taken} {t₂ : Words} {h₂ : List ℕ} {r : ℕ}
    → took k t₂ h₂ ≡ take_free p b t h → r ≡ align_allocation k.at.0 align offset → (st ms : List ℕ)
    → stepped (answered (r ∷ k.size ∷ flag false ∷ 0 ∷ [])) (tables_of t₂ st ms) h₂ ≡ shown (take_cell p (tables_of t st ms) [] h b align offset false)
unfolding step_of sweeps filter
head_cell p b align offset t h ek er st ms = rw er (sym (ap step_of (took_cell p (tables_of t st ms) [] h b align offset false ek)))

-- the search ends at the head of the available list, which has a free cell
module _ (p : Params) (holder bin : ℕ) (offer : Option Block) (t : Words) (st ms h : List ℕ) {o l b : ℕ} (eo : o ≡ local_sets holder) (el : l ≡ available o bin) (f : HasFree p t l b) (some : 0 < p.blocks) where
  at : ℕ
  at = get_or t.first l 0

  head_found : find_block p holder bin offer (tables_of t st ms) ≡ in_found (found at t) (tables_of t st ms)
  unfolding find_block at
  head_found =
      rw (← eo, ← el, ← skim_found p l (consumed o bin) t refl f.some f.here refl p.blocks some f.cell, ne_eqb (get_or t.first l 0) 0 f.some)

  pub serve_head : (align offset : ℕ) {k : Stepped} → k ≡ shown (take_cell p (tables_of t st ms) [] h b align offset false)
      → k ≡ ServedBy p align offset h (find_block p holder bin offer (tables_of t st ms))
  unfolding end_of step_of events_heap at
  serve_head align offset e =
      e ∙ sym (ap (ServedBy p align offset h) head_found ∙ served_end p align offset h (in_found (found at t) (tables_of t st ms))
      ∙ rw (ne_eqb (get_or t.first l 0) 0 f.some, ← f.here))

-- ---- the cell taken is low: free heads stay so in a search

pub cell_at : (p : Params) (b : ℕ) (t : Words) (h : List ℕ) {k : Taken} {t₂ : Words} {h₂ : List ℕ} → took k t₂ h₂ ≡ take_free p b t h
    → k.at.0 ≡ get_or t.free b 0
unfolding take_free
cell_at p b t h ek = ap (λ (o : TakenOut). o.answer.at.0) ek

pub cell_low : (p : Params) (holder bin : ℕ) (offer : Option Block) (t : Words) (st h : List ℕ) (b : ℕ) {ms : List ℕ} {v n : ℕ} {fresh : Bool} {t₁ t₂ : Words} {st₁ h₁ h₂ : List ℕ} {k : Taken}
    → good_params p ≡ true → Low t → ended v n fresh (tables_of t₁ st₁ ms) h₁ ≡ closed_search p 0 h (find_block p holder bin offer (tables_of t st ms))
    → took k t₂ h₂ ≡ take_free p b t₁ h₁ → k.at.0 < 2 ^ 47
cell_low p holder bin offer t st h b {ms} {v} {n} {fresh} {t₁} {t₂} {st₁} {h₁} g low e ek =
    let w : t₁ ≡ (find_block p holder bin offer (tables_of t st ms)).tables.words = ap (λ (x : Ended). x.tables.words) e in
    rw (cell_at p b t₁ h₁ ek, w) (find_low p (good_bounds p g) holder bin offer (tables_of t st ms) low b)
