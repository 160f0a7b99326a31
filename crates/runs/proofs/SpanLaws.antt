-- What holds of a run from one turn to a later one, as the model states it (Spans). Leans on demand 3's clause on lost cells:
-- an event strikes out a cell only while it is unmarked, and until the next answered prepare places are only added.
use Rattle.std.specs.Prelude.{if◌then◌else◌}
use mathlib.Core.Path.{◌≡◌, refl, sym, ap, ◌∙◌, subst}
use mathlib.Core.Logic.{⊎_elim}
use mathlib.Core.Bool.{Bool, true, false, not, ◌&&◌, ◌||◌}
use mathlib.Core.List.{List, [], ◌∷◌, ◌++◌}
use Prim.Native.Nat.{ℕ, zero, suc, ◌+◌, ◌*◌}
use lib.Dec.{eqb}
use borrow.Author.Tests.{not-false}
use Rattle.model.specs.declared.Params.{Params}
use Rattle.model.specs.Base.{any_below, member, any, In}
use Rattle.model.specs.Params.{plus_lower}
use Rattle.model.specs.SizeClasses.{words_in}
use Rattle.model.specs.Block.{keeps, simple}
use Rattle.model.specs.Events.{Event}
use Rattle.model.specs.Calls.{Call, bind, destroy, alloc, prepare, mark, release, shared_release, Returned}
use Rattle.model.specs.Runs.{Cell, Book, frees, book_event, book_events, book_answer, book_after, taker_of, unmarked, Turn, State, step_of, result_of, book_of, turned, begun, hits, LostExactly, stays_held, TurnKeeps, RunKeeps, Demand3}
use Rattle.model.specs.Spans.{after_turns, is_prepare, NoPrepare, NotLost, MarkedStays}
use Rattle.laws.proofs.Base.{or_left, or_right, or_cases, if_cases, not_both}
use Rattle.laws.proofs.Params.{Bounds}
use Rattle.laws.proofs.Lent.{fits_parts, answered_fits}
use Rattle.runs.proofs.Steps.{stays}
use Rattle.runs.proofs.Calls.{B}
use Rattle.runs.proofs.Demand3.{demand3}

-- ---- tests

and_none : (a : Bool) → (a && false) ≡ false
and_none true = refl
and_none false = refl

-- of two, the second passes
and_first : (a b : Bool) → (a && b) ≡ false → b ≡ true → a ≡ false
and_first true b e q = sym q ∙ e
and_first false b e q = refl

any_more : (n : ℕ) (f g : ℕ → Bool) → ((i : ℕ) → f i ≡ true → g i ≡ true) → any_below n f ≡ true → any_below n g ≡ true
unfolding any_below
any_more zero f g h e = e
any_more (suc n) f g h e =
    ⊎_elim (λ q. or_left (any_below n g) (h n q)) (λ q. or_right (g n) (any_more n f g h q)) (or_cases (f n) (any_below n f) e)

-- ---- a marked cell, in one turn

module _ (p : Params) (bounds : Bounds p) (c : Cell) where
  -- the cell is held and a place keeps it
  pub record state_marked (bk : Book) : Type 0 where
    pub held : In c bk.cells
    pub kept : unmarked p bk c ≡ false

  -- more places keep more
  keeps_more : (f g : ℕ → Bool) → ((a : ℕ) → f a ≡ true → g a ≡ true) → keeps p f c.size c.start ≡ true → keeps p g c.size c.start ≡ true
  unfolding keeps
  keeps_more f g h = go (simple p)
    where
      go : (b : Bool) → (if b then f c.start else any_below (words_in c.size) (λ k. f (plus_lower p (c.start + 8 * k)))) ≡ true
          → (if b then g c.start else any_below (words_in c.size) (λ k. g (plus_lower p (c.start + 8 * k)))) ≡ true
      go true e = h c.start e
      go false e = any_more (words_in c.size) _ _ (λ k q. h (plus_lower p (c.start + 8 * k)) q) e

  place_added : (place : ℕ) (bk : Book) → state_marked bk → state_marked (record { cells = bk.cells; places = place ∷ bk.places })
  unfolding unmarked member
  place_added place bk m =
      record {
        held = m.held;
        kept = ap not (keeps_more (λ a. member a bk.places) (λ a. member a (place ∷ bk.places)) (λ a q. or_right (eqb a place) q) (not-false _ m.kept));
      }

  -- what is answered leaves it marked, unless it is a prepare
  answer_marked : (k : Call) (bk : Book) → is_prepare k ≡ false → state_marked bk → state_marked (book_answer k bk)
  unfolding book_answer is_prepare
  answer_marked (bind h) bk q m = m
  answer_marked (destroy h) bk q m = m
  answer_marked (alloc h size align offset offer) bk q m = m
  answer_marked prepare bk q m = absurd (not_both true refl q)
  answer_marked (mark place b) bk q m = place_added place bk m
  answer_marked (release h) bk q m = m
  answer_marked shared_release bk q m = m

  -- no event strikes it out
  event_misses : (e : Event) (bk : Book) → (frees p e c ≡ (hits p e c && unmarked p bk c)) → state_marked bk → frees p e c ≡ false
  event_misses e bk l m = l ∙ ap (λ (x : Bool). hits p e c && x) m.kept ∙ and_none (hits p e c)

  event_marked : (h : ℕ) (e : Event) (bk : Book) → frees p e c ≡ false → state_marked bk → state_marked (book_event p h e bk)
  unfolding book_event unmarked
  event_marked h e bk q m = record { held = stays p bounds h e bk c m.held q; kept = m.kept }

  events_marked : (h : ℕ) (es : List Event) (bk : Book) → LostExactly p h es bk → state_marked bk
      → (any (λ e. frees p e c) es ≡ false) × state_marked (book_events p h es bk)
  unfolding any LostExactly book_events
  events_marked h [] bk l m = (refl, m)
  events_marked h (e ∷ es) bk l m =
      let q : frees p e c ≡ false = event_misses e bk (l.0 c m.held).0 m in
      let r = events_marked h es (book_event p h e bk) l.1 (event_marked h e bk q m) in
      (ap (λ (x : Bool). x || any (λ d. frees p d c) es) q ∙ r.0, r.1)

  turn_marked : (s : State) (u : Turn) → TurnKeeps p s u → (is_prepare u.call && eqb (result_of p s u).reply.number 0) ≡ false → state_marked s.book
      → (stays_held p (step_of p s u).events c ≡ true) × state_marked (turned p s u).book
  unfolding stays_held turned book_of book_after
  turn_marked s u k n m =
      let r = events_marked (taker_of u.call) (step_of p s u).events s.book k.keeps.lost m in
      let said : (is_prepare u.call && eqb (step_of p s u).reply.number 0) ≡ false = subst (λ (x : Returned). (is_prepare u.call && eqb x.reply.number 0) ≡ false) k.result n in (
        ap not r.0,
        if_cases state_marked (eqb (step_of p s u).reply.number 0)
            (λ e. answer_marked u.call _ (and_first (is_prepare u.call) _ said e) r.1)
            (λ e. r.1),
      )

  -- ---- in a row of turns with no answered prepare, from wherever it is marked

  pub marked_stays_from : (us : List Turn) (s : State) → RunKeeps p s us → NoPrepare p s us → state_marked s.book → NotLost p s us c
  unfolding RunKeeps NoPrepare NotLost
  marked_stays_from [] s k n m = m.held
  marked_stays_from (u ∷ us) s k n m =
      let r = turn_marked s u k.0 n.0 m in
      (r.0, marked_stays_from us (turned p s u) k.1 n.1 r.1)

-- what holds of each turn holds of the later ones
keeps_later : (p : Params) (us vs : List Turn) (s : State) → RunKeeps p s (us ++ vs) → RunKeeps p (after_turns p s us) vs
unfolding RunKeeps after_turns
keeps_later p [] vs s k = k
keeps_later p (u ∷ us) vs s k = keeps_later p us vs (turned p s u) k.1

-- ---- the theorem

pub marked_stays : MarkedStays
unfolding MarkedStays Demand3
marked_stays p l us u vs c e H marking leaves held kept none =
    marked_stays_from p (B p (fits_parts p l (answered_fits p l e)).0) c (u ∷ vs) (after_turns p (begun p l) us)
    (keeps_later p us (u ∷ vs) (begun p l) (demand3 p l l (us ++ (u ∷ vs)) (us ++ (u ∷ vs)) e e H H refl).1)
    none (record { held = held; kept = kept })
