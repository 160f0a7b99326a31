-- The end of a call: the one place where the heap is read once its chains are tested. The link read is the one that the shadow says,
-- so the reply, the tables and the events are those of a step that sees the shadow and no heap.
use Rattle.std.specs.Prelude.{Option}
use mathlib.Core.Path.{◌≡◌, refl, sym, ap, ◌∙◌, subst}
use mathlib.Core.Logic.{◌≢◌, inl, inr, ⊎_elim}
use mathlib.Core.Bool.{Bool, true, false}
use mathlib.Core.List.{List, [], ◌∷◌, ◌++◌, append-nil, head_d}
use Prim.Native.Nat.{ℕ, ◌+◌, ◌-◌, ◌%◌, ◌≤◌, ◌<◌}
use native.Mathlib.Omega.{arith}
use lib.ListN.{get_or, set}
use borrow.Author.Tests.{eq-eqb}
use Rattle.model.specs.declared.Params.{Params}
use Rattle.model.specs.declared.Block.{Block}
use Rattle.model.specs.Base.{In, Pairwise, flag}
use Rattle.model.specs.Params.{block_at, heap_bytes, heap_end}
use Rattle.model.specs.Memory.{load, zeroed}
use Rattle.model.specs.Tables.{Tables, with_words, set_free, set_cells}
use Rattle.model.specs.SizeClasses.{align_allocation}
use Rattle.model.specs.Events.{Event, initialised, swept, released, taken, spent, event_heap, events_heap, sweeps}
use Rattle.model.specs.Calls.{Reply, answered, Call, bind, destroy, alloc, prepare, mark, release, shared_release, End, says, takes, Step, take_cell, finish}
use Rattle.model.specs.Runs.{Cell, Book, frees, entered, book_event, book_events, book_answer, book_after, taker_of, covers, Apart, Zeroed, Served, Unchanged, LostExactly, byte_at, hits}
use Rattle.laws.proofs.Base.{not_both, in_append, in_append_right}
use Rattle.laws.proofs.Params.{Bounds}
use Rattle.laws.proofs.Tables.{sized_same, kept_lengths}
use Rattle.laws.proofs.Memory as Mem
use Rattle.laws.proofs.Cells.{Whole, whole_from_lem, whole_to, whole_apart, whole_block_at}
use Rattle.runs.proofs.Inv.{Held, Core, whole_eight, top_whole, take_bytes, take_core}
use Rattle.soundness.proofs.Chains.{shadow_events, first_head, first_link}
use Rattle.runs.proofs.Steps.{filter_all, EventsOk, none_taken, events_lost, events_unchanged, book_append, same_bytes}
use Rattle.runs.proofs.Search.{Settled}
use Rattle.runs.proofs.Plans.{book_for, Serves, Inv}

-- ---- a step over the shadow

pub record ShadowStep : Type 0 where
  pub reply : Reply
  pub tables : Tables
  pub events : List Event
  pub shadow : List (List ℕ)

unfoldable pub tail : List ℕ → List ℕ
tail [] = []
tail (x ∷ l) = l

unfoldable pub shadow_take : Tables → List Event → List (List ℕ) → ℕ → ℕ → ℕ → Bool → ShadowStep
shadow_take t es sh b align offset fresh =
    let cell : ℕ = get_or t.words.free b 0 in
    let size : ℕ = get_or t.words.size b 0 in
    record {
      reply = answered (align_allocation cell align offset ∷ size ∷ flag fresh ∷ sweeps es ∷ []);
      tables = with_words (set_cells b (get_or t.words.cells b 0 - 1) (set_free b (head_d (tail (get_or sh b [])) 0) t.words)) t;
      events = es ++ (taken cell size ∷ []);
      shadow = set sh b (tail (get_or sh b []));
    }

unfoldable pub shadow_finish : Tables → List Event → List (List ℕ) → End → ShadowStep
shadow_finish t es sh (says r) = record { reply = r; tables = t; events = es; shadow = sh }
shadow_finish t es sh (takes b align offset fresh) = shadow_take t es sh b align offset fresh

-- the cell of an event that takes one
cell_start : Event → ℕ
cell_start (initialised b chain) = 0
cell_start (swept b chain) = 0
cell_start (released b) = 0
cell_start (taken a s) = a
cell_start (spent b) = 0

cell_size : Event → ℕ
cell_size (initialised b chain) = 0
cell_size (swept b chain) = 0
cell_size (released b) = 0
cell_size (taken a s) = s
cell_size (spent b) = 0

-- `Served`, call by call
ServedBy : Call → Step → Type 0
ServedBy (bind h) s = Unit {0}
ServedBy (destroy h) s = Unit {0}
ServedBy (alloc h size align offset offer) s =
    s.reply.number ≡ 0
    → (a : ℕ) × (n : ℕ) × In (taken a n) s.events × (get_or s.reply.values 0 0 ≡ align_allocation a align offset)
    × (get_or s.reply.values 1 0 ≡ n) × (align_allocation a align offset + size ≤ a + n)
ServedBy prepare s = Unit {0}
ServedBy (mark place b) s = Unit {0}
ServedBy (release h) s = Unit {0}
ServedBy shared_release s = Unit {0}

served_by : (c : Call) (s : Step) → ServedBy c s → Served c s.reply s.events
unfolding ServedBy Served
served_by c s v h size align offset offer e = subst (λ (x : Call). ServedBy x s) e v

module _ (p : Params) (B : Bounds p) where
  -- what a call's step is shown to do
  pub record StepOk (h : List ℕ) (bk : Book) (c : Call) (s : Step) (a : ShadowStep) : Type 0 where
    pub reply : s.reply ≡ a.reply
    pub tables : s.tables ≡ a.tables
    pub events : s.events ≡ a.events
    pub inv : Inv p B s.tables s.heap a.shadow (book_after p c s bk)
    pub served : Served c s.reply s.events
    pub zeroed : Zeroed p s.events s.heap
    pub unchanged : Unchanged p bk s.events h s.heap
    pub lost : LostExactly p (taker_of c) s.events bk

  -- held cells that start apart share no byte
  pub held_apart : (size st : List ℕ) (cs : List Cell) → ((c : Cell) → In c cs → Held p size st c) → Pairwise (λ c d. c.start ≢ d.start) cs → Pairwise Apart cs
  unfolding Pairwise In Apart covers
  held_apart size st [] held a = tt
  held_apart size st (c ∷ cs) held a = (
    (λ d m k u v. both d m k u v (whole_apart p _ _ _ _ _ _ (held c (inl refl)).low (held d (inr m)).low (held c (inl refl)).whole (held d (inr m)).whole (sizes d m) (a.0 d m))),
    held_apart size st cs (λ d m. held d (inr m)) a.1,
  )
    where
      sizes : (d : Cell) → In d cs → block_at p c.start ≡ block_at p d.start → c.size ≡ d.size
      sizes d m e = (held c (inl refl)).size ∙ ap (λ (x : ℕ). get_or size x 0) e ∙ sym (held d (inr m)).size

      both : (d : Cell) → In d cs → (k : ℕ) → (c.start ≤ k) × (k < c.start + c.size) → (d.start ≤ k) × (k < d.start + d.size)
          → Mem.Apart c.start c.size d.start d.size → ⊥
      both d m k u v (inl x) = omega (arith, u.1, v.0, x)
      both d m k u v (inr x) = omega (arith, u.0, v.1, x)

  module _ (t : Tables) (h : List ℕ) (sh : List (List ℕ)) (bk : Book) (c : Call) where
    -- a reply is said
    pub said_ok : (t' : Tables) (es : List Event) (r : Reply) → EventsOk p B (taker_of c) es h bk
        → Inv p B t' (events_heap p es h) (shadow_events es sh) (book_for c (says r) (book_events p (taker_of c) es bk)) → Serves c t'.words (says r)
        → StepOk h bk c (finish p t' es (events_heap p es h) (says r)) (shadow_finish t' es (shadow_events es sh) (says r))
    unfolding finish shadow_finish book_for book_after Zeroed ServedBy Serves Unchanged LostExactly events_heap
    said_ok t' es r o I serves =
        record {
          reply = refl;
          tables = refl;
          events = refl;
          inv = I;
          served = served_by c _ (said_served c serves);
          zeroed = λ a s m. absurd (none_taken p B (taker_of c) es h bk o a s m);
          unchanged = subst (λ (x : List Event). Unchanged p bk x h (events_heap p es h)) (append-nil es)
              (events_unchanged p B (taker_of c) es [] h bk o (λ d m v k w. refl));
          lost = subst (λ (x : List Event). LostExactly p (taker_of c) x bk) (append-nil es) (events_lost p B (taker_of c) es [] h bk o tt);
        }
      where
        said_served : (c : Call) → Serves c t'.words (says r) → ServedBy c (finish p t' es (events_heap p es h) (says r))
        said_served (bind d) v = tt
        said_served (destroy d) v = tt
        said_served (alloc d size align offset offer) v = λ e. absurd (not_both _ (eq-eqb _ _ e) v)
        said_served prepare v = tt
        said_served (mark place b) v = tt
        said_served (release d) v = tt
        said_served shared_release v = tt

    -- a cell is taken: only an alloc ends so
    module _ (t' : Tables) (es : List Event) (b align offset : ℕ) (fresh : Bool) (x : ℕ) (l : List ℕ) (o : EventsOk p B (taker_of c) es h bk)
        (I : Inv p B t' (events_heap p es h) (shadow_events es sh) (book_events p (taker_of c) es bk))
        (lb : b < p.blocks) (occ : get_or t'.states b 0 ≢ 0) (settled : Settled (get_or t'.words.list b 0)) (running : t'.words.phase ≡ 0)
        (top : get_or (shadow_events es sh) b [] ≡ x ∷ l) where
      abbrev H : List ℕ
      H = events_heap p es h

      abbrev bk' : Book
      bk' = book_events p (taker_of c) es bk

      abbrev size : ℕ
      size = get_or t'.words.size b 0

      C : Core p t'.words.free t'.words.size t'.words.cells t'.states t'.marks H (shadow_events es sh) bk'
      C = I.core

      W : Whole p b size x
      W = top_whole p B t'.words.free t'.words.size t'.words.cells t'.states t'.marks H (shadow_events es sh) bk' C b lb occ x l top (taker_of c)

      head_is : get_or t'.words.free b 0 ≡ x
      head_is = first_head p B t'.words.free t'.words.size t'.words.cells H (shadow_events es sh) C.chains b lb x l top

      link_is : load p H x ≡ head_d l 0
      link_is = first_link p B t'.words.free t'.words.size t'.words.cells H (shadow_events es sh) C.chains b lb x l top

      tail_is : tail (get_or (shadow_events es sh) b []) ≡ l
      unfolding tail
      tail_is = ap tail top

      -- the step, with the link read
      unfoldable pub taken_step : Step
      taken_step =
          record {
            reply = answered (align_allocation x align offset ∷ size ∷ flag fresh ∷ sweeps es ∷ []);
            tables = with_words (set_cells b (get_or t'.words.cells b 0 - 1) (set_free b (head_d l 0) t'.words)) t';
            heap = zeroed p H x size;
            events = es ++ (taken x size ∷ []);
          }

      pub step_is : finish p t' es H (takes b align offset fresh) ≡ taken_step
      unfolding finish take_cell taken_step event_heap
      step_is = rw (head_is, link_is)

      pub shadow_is : shadow_finish t' es (shadow_events es sh) (takes b align offset fresh)
          ≡ record { reply = taken_step.reply; tables = taken_step.tables; events = taken_step.events; shadow = set (shadow_events es sh) b l }
      unfolding shadow_finish shadow_take taken_step
      shadow_is = rw (head_is, tail_is)

  -- of an alloc by d, for this size, align and offset
  module _ (t : Tables) (h : List ℕ) (sh : List (List ℕ)) (bk : Book) (d asked align offset : ℕ) (offer : Option Block)
      (t' : Tables) (es : List Event) (b : ℕ) (fresh : Bool) (x : ℕ) (l : List ℕ) (o : EventsOk p B d es h bk)
      (I : Inv p B t' (events_heap p es h) (shadow_events es sh) (book_events p d es bk))
      (lb : b < p.blocks) (occ : get_or t'.states b 0 ≢ 0) (settled : Settled (get_or t'.words.list b 0)) (running : t'.words.phase ≡ 0)
      (top : get_or (shadow_events es sh) b [] ≡ x ∷ l)
      (fits : (y : ℕ) → y % 8 ≡ 0 → align_allocation y align offset + asked ≤ y + get_or t'.words.size b 0) where
    abbrev c : Call
    c = alloc d asked align offset offer

    abbrev G : List ℕ
    G = events_heap p es h

    abbrev held : Book
    held = book_events p d es bk

    abbrev n : ℕ
    n = get_or t'.words.size b 0

    abbrev s : Step
    s = record {
      reply = answered (align_allocation x align offset ∷ n ∷ flag fresh ∷ sweeps es ∷ []);
      tables = with_words (set_cells b (get_or t'.words.cells b 0 - 1) (set_free b (head_d l 0) t'.words)) t';
      heap = zeroed p G x n;
      events = es ++ (taken x n ∷ []);
    }

    first : Whole p b n x
    first = top_whole p B t'.words.free t'.words.size t'.words.cells t'.states t'.marks G (shadow_events es sh) held I.core b lb occ x l top d

    book_is : book_after p c s bk
        ≡ record { cells = record { start = x; size = n; holder = d; old = false } ∷ held.cells; places = held.places }
    unfolding book_after book_answer taker_of book_events book_event entered frees
    book_is = book_append p B d es (taken x n ∷ []) bk
        ∙ ap (λ (cs : List Cell). record { cells = record { start = x; size = n; holder = d; old = false } ∷ cs; places = held.places }) (filter_all held.cells)

    after_inv : Inv p B s.tables s.heap (set (shadow_events es sh) b l) (book_after p c s bk)
    unfolding set_free set_cells In
    after_inv =
        rw book_is (record {
          core = take_core p B t'.words.free t'.words.size t'.words.cells t'.states t'.marks G (shadow_events es sh) held I.core b lb occ x l top d;
          sized = sized_same (simp kept_lengths) I.sized;
          young = λ e m q. ⊎_elim
              (λ z. (running, subst (λ (y : ℕ). Settled (get_or t'.words.list y 0)) (sym (ap (λ (y : Cell). block_at p y.start) z ∙ whole_block_at p B b n x lb first)) settled))
              (λ z. I.young e z q) m;
          idle = I.idle;
        })

    zero_bytes : Zeroed p s.events s.heap
    unfolding Zeroed In cell_start cell_size heap_end heap_bytes
    zero_bytes a z m = ⊎_elim
        (λ k. absurd (none_taken p B d es h bk o a z k))
        (λ k. ⊎_elim (λ e. clean a z (ap cell_start e) (ap cell_size e)) (λ f. absurd f) k)
        (in_append (taken a z) es (taken x n ∷ []) m)
      where
        clean : (a z : ℕ) → a ≡ x → z ≡ n → (p.base ≤ a) × (a + z ≤ heap_end p) × ((k : ℕ) → a ≤ k → k < a + z → byte_at p (zeroed p G x n) k ≡ 0)
        clean a z e f = (
          omega (arith, e, whole_from_lem p B b n x lb first),
          omega (arith, e, f, whole_to p B b n x lb first),
          λ k lo hi.
              let i : k - p.base ≡ (x - p.base) + (k - x) = omega (arith, e, lo, whole_from_lem p B b n x lb first) in
              ap (λ (y : ℕ). get_or (zeroed p G x n) y 0) i ∙ Mem.zeroed_in p G x n (k - x) (omega (arith, e, f, lo, hi)),
        )

    pub taken_ok : StepOk h bk c s (record { reply = s.reply; tables = s.tables; events = s.events; shadow = set (shadow_events es sh) b l })
    unfolding ServedBy taker_of Unchanged LostExactly events_heap event_heap frees hits In
    taken_ok =
        record {
          reply = refl;
          tables = refl;
          events = refl;
          inv = after_inv;
          served = served_by c s (λ z. (x, n, in_append_right (taken x n) es (taken x n ∷ []) (inl refl), refl, refl, fits x (whole_eight p B b n x lb (I.core.words b) first)));
          zeroed = zero_bytes;
          unchanged = events_unchanged p B d es (taken x n ∷ []) h bk o
              (λ e m q k v. same_bytes p B d t'.words.size t'.states G (zeroed p G x n) e (I.core.held e m)
              (take_bytes p B t'.words.free t'.words.size t'.words.cells t'.states t'.marks G (shadow_events es sh) held I.core b lb occ x l top d e m) k v);
          lost = events_lost p B d es (taken x n ∷ []) h bk o ((λ e m. (refl, λ q. absurd (not_both true refl (sym q)))), tt);
        }
