-- A row of events keeps the invariant: the shadow after events, and what is shown of them in order.
use mathlib.Core.Path.{◌≡◌, refl, sym, ap, ◌∙◌}
use mathlib.Core.Logic.{inl, inr}
use mathlib.Core.Bool.{Bool, true, false, not, ◌&&◌}
use mathlib.Core.List.{List, [], ◌∷◌, ◌++◌}
use Prim.Native.Nat.{ℕ, ◌-◌}
use native.Mathlib.Omega.{arith}
use borrow.Author.Tests.{not-true}
use Rattle.model.specs.declared.Params.{Params}
use Rattle.model.specs.Base.{In, any, filter}
use Rattle.model.specs.Events.{Event, initialised, swept, released, taken, spent, event_heap, events_heap}
use Rattle.model.specs.Runs.{Cell, Book, frees, entered, book_event, book_events, unmarked, covers, stays_held, Unchanged, byte_at, hits, LostExactly}
use Rattle.laws.proofs.Base.{filter_in, or_none_left, or_none_right, not_both}
use Rattle.laws.proofs.Params.{Bounds}
use Rattle.laws.proofs.Memory as Mem
use Rattle.laws.proofs.Cells.{whole_from_lem}
use Rattle.soundness.proofs.Chains.{shadow_event, shadow_events}
use Rattle.runs.proofs.Inv.{Held}

unfoldable pub is_taken : Event → Bool
is_taken (initialised b chain) = false
is_taken (swept b chain) = false
is_taken (released b) = false
is_taken (taken a s) = true
is_taken (spent b) = false

-- nothing is dropped where nothing is tested
pub filter_all : (cs : List Cell) → filter (λ (c : Cell). not false) cs ≡ cs
unfolding filter
filter_all [] = refl
filter_all (c ∷ cs) = ap (λ (x : List Cell). c ∷ x) (filter_all cs)

-- ---- one event

module _ (p : Params) (B : Bounds p) (hd : ℕ) where
  -- what is shown of an event, at the heap and the book before it
  pub record EventOk (e : Event) (h : List ℕ) (bk : Book) : Type 0 where
    pub lost : (c : Cell) → In c bk.cells → (frees p e c ≡ (hits p e c && unmarked p bk c)) × (frees p e c ≡ true → c.old ≡ true)
    pub bytes : (c : Cell) → In c bk.cells → frees p e c ≡ false → (k : ℕ) → covers c k → byte_at p (event_heap p e h) k ≡ byte_at p h k

  -- bytes by addresses, from bytes by places
  pub same_bytes : (size st h h' : List ℕ) (c : Cell) → Held p size st c → Mem.Same h h' (c.start - p.base) c.size → (k : ℕ) → covers c k → byte_at p h' k ≡ byte_at p h k
  unfolding covers
  same_bytes size st h h' c H s k v =
      sym (s (k - p.base) (omega (arith, v.0)) (omega (arith, v.0, v.1, whole_from_lem p B _ _ _ H.low H.whole)))

  -- a cell that is not struck out stays in the book
  enters : (e : Event) (c : Cell) (cs : List Cell) → In c cs → In c (entered hd e cs)
  unfolding entered In
  enters (initialised b chain) c cs m = m
  enters (swept b chain) c cs m = m
  enters (released b) c cs m = m
  enters (taken a s) c cs m = inr m
  enters (spent b) c cs m = m

  pub stays : (e : Event) (bk : Book) (c : Cell) → In c bk.cells → frees p e c ≡ false → In c (book_event p hd e bk).cells
  unfolding book_event
  stays e bk c m s = enters e c _ (filter_in (λ (x : Cell). not (frees p e x)) c bk.cells m (ap not s))

  -- a block that goes to a consumed list: nothing happens to cells
  pub spent_book : (b : ℕ) (bk : Book) → book_event p hd (spent b) bk ≡ bk
  unfolding book_event entered frees
  spent_book b bk = ap (λ (cs : List Cell). record { cells = cs; places = bk.places }) (filter_all bk.cells)

  pub spent_ok : (b : ℕ) (h : List ℕ) (bk : Book) → EventOk (spent b) h bk
  unfolding frees hits event_heap
  spent_ok b h bk = record { lost = λ c m. (refl, λ s. absurd (not_both true refl (sym s))); bytes = λ c m out k v. refl }

  -- ---- events in order: those of a plan, which take no cell

  unfoldable pub EventsOk : List Event → List ℕ → Book → Type 0
  EventsOk [] h bk = Unit {0}
  EventsOk (e ∷ es) h bk = ((is_taken e ≡ false) × EventOk e h bk × EventsOk es (event_heap p e h) (book_event p hd e bk))

  pub no_events : (h : List ℕ) (bk : Book) → EventsOk [] h bk
  unfolding EventsOk
  no_events h bk = tt

  pub more_events : (e : Event) (es : List Event) (h : List ℕ) (bk : Book) → is_taken e ≡ false → EventOk e h bk → EventsOk es (event_heap p e h) (book_event p hd e bk) → EventsOk (e ∷ es) h bk
  unfolding EventsOk
  more_events e es h bk q o r = (q, o, r)

  pub events_append : (es fs : List Event) (h : List ℕ) (bk : Book) → EventsOk es h bk → EventsOk fs (events_heap p es h) (book_events p hd es bk) → EventsOk (es ++ fs) h bk
  unfolding EventsOk events_heap book_events
  events_append [] fs h bk o r = r
  events_append (e ∷ es) fs h bk o r = (o.0, o.1, events_append es fs (event_heap p e h) (book_event p hd e bk) o.2 r)

  -- none of them is the taking of a cell
  pub none_taken : (es : List Event) (h : List ℕ) (bk : Book) → EventsOk es h bk → (a s : ℕ) → In (taken a s) es → ⊥
  unfolding EventsOk In is_taken
  none_taken [] h bk o a s m = m
  none_taken (e ∷ es) h bk o a s (inl q) = not_both true refl (ap is_taken q ∙ o.0)
  none_taken (e ∷ es) h bk o a s (inr m) = none_taken es (event_heap p e h) (book_event p hd e bk) o.2 a s m

  pub book_append : (es fs : List Event) (bk : Book) → book_events p hd (es ++ fs) bk ≡ book_events p hd fs (book_events p hd es bk)
  unfolding book_events
  book_append [] fs bk = refl
  book_append (e ∷ es) fs bk = book_append es fs (book_event p hd e bk)

  -- one event behind others
  pub events_behind : (es : List Event) (e : Event) (h : List ℕ) (bk : Book) → EventsOk es h bk → is_taken e ≡ false
      → EventOk e (events_heap p es h) (book_events p hd es bk) → EventsOk (es ++ (e ∷ [])) h bk
  events_behind es e h bk o q r = events_append es (e ∷ []) h bk o (more_events e [] _ _ q r (no_events _ _))

  pub behind : (P : List ℕ → List (List ℕ) → Book → Type 0) (es : List Event) (e : Event) (h : List ℕ) (sh : List (List ℕ)) (bk : Book)
      → P (event_heap p e (events_heap p es h)) (shadow_event e (shadow_events es sh)) (book_event p hd e (book_events p hd es bk))
      → P (events_heap p (es ++ (e ∷ [])) h) (shadow_events (es ++ (e ∷ [])) sh) (book_events p hd (es ++ (e ∷ [])) bk)
  unfolding events_heap shadow_events book_events
  behind P [] e h sh bk r = r
  behind P (d ∷ es) e h sh bk r = behind P es e (event_heap p d h) (shadow_event d sh) (book_event p hd d bk) r

  -- ---- the two clauses of demand 3 that speak of events: of a plan's events, and of these and the cell taken at the end

  pub events_lost : (es fs : List Event) (h : List ℕ) (bk : Book) → EventsOk es h bk → LostExactly p hd fs (book_events p hd es bk) → LostExactly p hd (es ++ fs) bk
  unfolding EventsOk LostExactly book_events
  events_lost [] fs h bk o r = r
  events_lost (e ∷ es) fs h bk o r = (o.1.lost, events_lost es fs (event_heap p e h) (book_event p hd e bk) o.2 r)

  pub events_unchanged : (es fs : List Event) (h : List ℕ) (bk : Book) → EventsOk es h bk
      → Unchanged p (book_events p hd es bk) fs (events_heap p es h) (events_heap p fs (events_heap p es h)) → Unchanged p bk (es ++ fs) h (events_heap p fs (events_heap p es h))
  unfolding EventsOk Unchanged events_heap book_events stays_held any
  events_unchanged [] fs h bk o r = r
  events_unchanged (e ∷ es) fs h bk o r = λ c m s k v.
      let q = not-true _ s in
      let here : frees p e c ≡ false = or_none_left (frees p e c) _ q in
      events_unchanged es fs (event_heap p e h) (book_event p hd e bk) o.2 r c (stays e bk c m here) (ap not (or_none_right (frees p e c) _ q)) k v
      ∙ o.1.bytes c m here k v
