-- A run through the exports is a run of the machine, and demand 3 holds of it. Between two calls the host's bytes carry what the
-- machine has lent, its words encoded and each below 2^64. Leans on demand 3. Assumes nothing.
use Rattle.std.specs.Prelude.{if◌then◌else◌}
use mathlib.Core.Path.{◌≡◌, refl, sym, ap, ◌∙◌}
use mathlib.Core.Logic.{◌⊎◌, inl, inr}
use mathlib.Core.Bool.{Bool, true, false, ◌&&◌}
use mathlib.Core.List.{List, [], ◌∷◌, map}
use Prim.Native.Nat.{ℕ, ◌%◌}
use native.Mathlib.Omega.{arith}
use lib.ListN.{length}
use borrow.Author.Tests.{eq-eqb}
use Rattle.model.specs.declared.Params.{Params}
use Rattle.model.specs.declared.Given.{Given}
use Rattle.model.specs.Base.{In}
use Rattle.model.specs.Params.{Lent, fits, good_params}
use Rattle.model.specs.Classes.{classes_fit}
use Rattle.model.specs.Global.{fresh_tables}
use Rattle.model.specs.Events.{Event}
use Rattle.model.specs.Calls.{refusal_number, answered, Call, Returned, call, set_up}
use Rattle.model.specs.Answers.{said_of}
use Rattle.model.specs.Runs.{written, Turn, State, found_by, step_of, result_of, turned, begun, Seen, seen, seen_in, Demand3}
use Rattle.model.specs.Exports.{encoded, LentBytes, decoded_lent, Export, answer_bytes, tells, shown, Inner, asks, lengths_ok, exported, params_of, flags_ok, rows_ok, called, HostTurn, found_bytes, host_call, host_run, machine_run, AnswersFit, RunThroughExports, HostSees, host_sees, Demand3ThroughExports}
use Rattle.laws.proofs.Base.{if_cases}
use Rattle.laws.proofs.Below.{test, and_both}
use Rattle.laws.proofs.Params.{good_bounds}
use Rattle.laws.proofs.Lent.{fits_parts, answered_fits, answered_classes, set_up_is}
use Rattle.soundness.proofs.Kept.{fresh_sound}
use Rattle.runs.proofs.Demand3.{demand3}
use Rattle.exports.proofs.Coding.{length_encoded, decoded_encoded}
use Rattle.exports.proofs.Small.{Small, sound_small, call_small}

-- the host's bytes carry what is lent
record Carries (b : LentBytes) (l : Lent) : Type 0 where
  words : b.words ≡ encoded l.words
  states : b.states ≡ l.states
  marks : b.marks ≡ l.marks
  heap : b.heap ≡ l.heap
  small : Small l.words

shown_carries : (a : List ℕ) (r : Returned) → Small r.lent.words → Carries (shown a r).bytes r.lent
unfolding shown
shown_carries a r h = record { words = refl; states = refl; marks = refl; heap = refl; small = h }

-- ---- one call

module _ (g : Given) (r : List ℕ) (ok : (flags_ok g && rows_ok r) ≡ true) where
  abbrev p : Params
  p = params_of g r

  called_shown : (b : LentBytes) (f : Inner) → lengths_ok b ≡ true → called g r b f ≡ shown b.answer (f p (decoded_lent b))
  unfolding called exported
  called_shown b f e = rw (ok, e)

  module _ (b : LentBytes) (s : State) (u : HostTurn) (H : Carries b s.lent) (A : length u.answer ≡ 32) where
    found_fits : lengths_ok (found_bytes p b u) ≡ true
    unfolding found_bytes
    found_fits =
        and_both (eq-eqb (length b.words % 8) 0 (omega (arith, ap length H.words, length_encoded s.lent.words))) (eq-eqb (length u.answer) 32 A)

    found_same : decoded_lent (found_bytes p b u) ≡ found_by p s.lent u.turn
    unfolding found_bytes found_by
    found_same =
        let back = rw (← H.words) at (decoded_encoded s.lent.words H.small) in
        λ i. record { words = back i; states = H.states i; marks = H.marks i; heap = written p u.turn.writes (H.heap i) }

    turn_is : host_call g r b u ≡ shown u.answer (result_of p s u.turn)
    unfolding host_call result_of found_bytes
    turn_is =
        called_shown (found_bytes p b u) (asks u.turn.call) found_fits
        ∙ ap (λ (l : Lent). shown u.answer (call p l u.turn.call)) found_same

    turn_carries : Carries (shown u.answer (result_of p s u.turn)).bytes (turned p s u.turn).lent
    unfolding turned result_of found_by
    turn_carries =
        shown_carries u.answer (call p (found_by p s.lent u.turn) u.turn.call)
        (call_small p (found_by p s.lent u.turn) u.turn.call H.small)

  -- ---- call after call

  run_is : (us : List HostTurn) (b : LentBytes) (s : State) → Carries b s.lent → AnswersFit us → host_run g r b us ≡ machine_run p s us
  unfolding host_run machine_run In
  run_is [] b s H A = refl
  run_is (u ∷ us) b s H A =
      let fit : length u.answer ≡ 32 = A u (inl refl) in
      ap (λ (x : Export). x ∷ host_run g r x.bytes us) (turn_is b s u H fit)
      ∙ ap (λ (xs : List Export). shown u.answer (result_of p s u.turn) ∷ xs)
      (run_is us _ (turned p s u.turn) (turn_carries b s u H fit) (λ v m. A v (inr m)))

-- ---- set-up

set_up_answered : (p : Params) (l : Lent) → (set_up p l).reply.number ≡ 0 → (set_up p l).reply ≡ answered []
unfolding set_up refusal_number
set_up_answered p l e =
    if_cases (λ (r : Returned). r.reply.number ≡ 0 → r.reply ≡ answered []) (fits p l)
    (λ f. if_cases (λ (r : Returned). r.reply.number ≡ 0 → r.reply ≡ answered []) (classes_fit p) (λ k z. refl) (λ k z. absurd (omega (arith, z))))
    (λ f z. absurd (omega (arith, z))) e

set_up_small : (p : Params) (l : Lent) → (set_up p l).reply ≡ answered [] → Small (set_up p l).lent.words
set_up_small p l e =
    let f : fits p l ≡ true = answered_fits p l e in
    let fine : good_params p ≡ true = (fits_parts p l f).0 in
    let rows : classes_fit p ≡ true = answered_classes p l e in
    rw (set_up_is p l f rows) (sound_small p (good_bounds p fine) rows (fresh_tables p) l.heap (fresh_sound p (good_bounds p fine) l.heap (fits_parts p l f).1))

-- what returns 0 had flags and lengths that are right
module _ (g : Given) (r : List ℕ) (b : LentBytes) (f : Inner) (e : (called g r b f).number ≡ 0) where
  flags_right : (flags_ok g && rows_ok r) ≡ true
  unfolding called refusal_number
  flags_right = go (test (flags_ok g && rows_ok r))
    where
      go : ((flags_ok g && rows_ok r) ≡ true) ⊎ ((flags_ok g && rows_ok r) ≡ false) → (flags_ok g && rows_ok r) ≡ true
      go (inl h) = h
      go (inr h) = absurd (let z = rw h at e in omega (arith, z))

  lengths_right : lengths_ok b ≡ true
  unfolding called exported refusal_number
  lengths_right = go (test (lengths_ok b))
    where
      go : (lengths_ok b ≡ true) ⊎ (lengths_ok b ≡ false) → lengths_ok b ≡ true
      go (inl h) = h
      go (inr h) = absurd (let z = rw (flags_right, h) at e in omega (arith, z))

-- ---- the theorems

pub run_through_exports : RunThroughExports
unfolding RunThroughExports begun shown
run_through_exports g r b us e A =
    let ok : (flags_ok g && rows_ok r) ≡ true = flags_right g r b set_up e in
    let p : Params = params_of g r in
    let q : called g r b set_up ≡ shown b.answer (set_up p (decoded_lent b)) =
    called_shown g r ok b set_up (lengths_right g r b set_up e) in
    let y : (set_up p (decoded_lent b)).reply ≡ answered [] =
    set_up_answered p (decoded_lent b) (sym (ap (λ (x : Export). x.number) q) ∙ e) in (
      y,
      q,
      ap (λ (x : Export). host_run g r x.bytes us) q
          ∙ run_is g r ok us _ (begun p (decoded_lent b)) (shown_carries b.answer (set_up p (decoded_lent b)) (set_up_small p (decoded_lent b) y)) A,
    )

-- what a host reads of a call is in what is seen of the machine's
abbrev read_of : Seen → HostSees
read_of x =
    record { number = x.reply.number; answer = if tells x.reply.number then answer_bytes (said_of x.reply) else []; words = encoded x.words; states = x.states; marks = x.marks }

shown_read : (a : List ℕ) (r : Returned) (es : List Event) → host_sees (shown a r) ≡ read_of (seen r es)
unfolding host_sees shown
shown_read a r es =
    ap (λ (x : List ℕ). record { number = r.reply.number; answer = x; words = encoded r.lent.words; states = r.lent.states; marks = r.lent.marks })
    (twice (tells r.reply.number) (answer_bytes (said_of r.reply)) a)
  where
    twice : (c : Bool) (x y : List ℕ) → (if c then (if c then x else y) else []) ≡ (if c then x else [])
    twice true x y = refl
    twice false x y = refl

machine_read : (p : Params) (us : List HostTurn) (s : State) → map host_sees (machine_run p s us) ≡ map read_of (seen_in p s (map (λ (u : HostTurn). u.turn) us))
unfolding machine_run seen_in
machine_read p [] s = refl
machine_read p (u ∷ us) s =
    λ i. shown_read u.answer (result_of p s u.turn) (step_of p s u.turn).events i ∷ machine_read p us (turned p s u.turn) i

calls_of : (us : List HostTurn) → map (λ (u : Turn). u.call) (map (λ (u : HostTurn). u.turn) us) ≡ map (λ (u : HostTurn). u.turn.call) us
calls_of [] = refl
calls_of (u ∷ us) = ap (λ (cs : List Call). u.turn.call ∷ cs) (calls_of us)

pub demand3_through_exports : Demand3ThroughExports
unfolding Demand3ThroughExports RunThroughExports Demand3
demand3_through_exports g rows b b' us us' e e' A A' H H' same =
    let p : Params = params_of g rows in
    let r = run_through_exports g rows b us e A in
    let r' = run_through_exports g rows b' us' e' A' in
    let D = demand3 p (decoded_lent b) (decoded_lent b') (map (λ (u : HostTurn). u.turn) us) (map (λ (u : HostTurn). u.turn) us')
    r.0 r'.0 H H' (calls_of us ∙ same ∙ sym (calls_of us')) in (
      ap host_sees r.1 ∙ shown_read b.answer (set_up p (decoded_lent b)) [] ∙ ap read_of D.0.set_ups
          ∙ sym (ap host_sees r'.1 ∙ shown_read b'.answer (set_up p (decoded_lent b')) []),
      ap (map host_sees) r.2 ∙ machine_read p us _ ∙ ap (map read_of) D.0.calls ∙ sym (ap (map host_sees) r'.2 ∙ machine_read p us' _),
      D.1,
    )
