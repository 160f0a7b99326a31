-- The laws of `run`: an entry read, a call made on what the first tests said, answers laid one behind the other, and that the first tests
-- say the same again after each call. Leans on soundness (`sound_kept`); assumes nothing.
use Rattle.std.specs.Prelude.{if◌then◌else◌, Option, Some, None, Result, Ok, Err}
use Prim.Native.Nat.{ℕ, zero, suc, ◌+◌, ◌-◌, ◌*◌, ◌/◌, ◌%◌, ◌≤◌, ◌<◌}
use mathlib.Core.Path.{◌≡◌, refl, sym, ap, ◌∙◌, subst}
use mathlib.Core.Bool.{true}
use mathlib.Core.List.{List, [], ◌∷◌, ◌++◌}
use native.Mathlib.Nat.{not-suc-le-zero, le_of_suc-le-suc}
use native.Mathlib.Omega.{arith}
use lib.Dec.{eqb}
use lib.ListN.{length, get_or, set, take, drop, length-append}
use borrow.Author.Tests.{eq-eqb, ne_eqb}
use Rattle.model.specs.declared.Params.{Params}
use Rattle.model.specs.declared.Said.{Said}
use Rattle.model.specs.declared.Ask.{Ask}
use Rattle.model.specs.declared.Refusal.{Refusal}
use Rattle.model.specs.declared.Refusal.TheVariants.{BadSetup, BadLine}
use Rattle.model.specs.Params.{Lent, fits}
use Rattle.model.specs.Memory.{overwrite}
use Rattle.model.specs.Tables.{tables_of, view}
use Rattle.model.specs.Classes.{classes_fit}
use Rattle.model.specs.Sound.{sound_on}
use Rattle.model.specs.Calls.{Reply, answered, refused, Call, bind, destroy, alloc, prepare, mark, release, shared_release, Returned, tables_in, and_then, call}
use Rattle.model.specs.Answers.{call_of, said_of, Outcome, outcome, outcome_of}
use Rattle.model.specs.Promise.{lend}
use Rattle.model.specs.Refusals.{SoundKept}
use Rattle.model.specs.Exports.{offered_by}
use Rattle.model.specs.RunCalls.{call_at, made, said_words, words_of, RowRan, run_from, lists_fit, run_result, run_calls}
use Rattle.std.proofs.lemmas.List.{get_or-take, get_or-drop, drop-drop}
use Rattle.std.specs.Simd.{first_chunks}
use Rattle.laws.proofs.Memory.{overwrite_nil, overwrite_set}
use Rattle.soundness.proofs.Kept.{sound_kept}
use Rattle.native_ms.specs.Checked.{lent_tests}
use Rattle.native_ms.specs.Ending.{Does}
use Rattle.native_ms.specs.RunLoop.{entry_call, Tested, ran, laid, refused_reply, refused_from}
use Rattle.native_ms.proofs.Tests.{opened, lent_refused, lent_passed}

-- ---- an entry, by its kind

-- the call that six words name
abbrev call_by : (kind a b c d e : ℕ) → Option Call
call_by kind a b c d e =
    if eqb kind 1 then Some (bind a)
    else if eqb kind 2 then Some (destroy a)
    else if eqb kind 3 then Some (alloc a b c d (offered_by e))
    else if eqb kind 4 then Some prepare
    else if eqb kind 5 then Some (mark a b)
    else if eqb kind 6 then Some (release a)
    else if eqb kind 7 then Some shared_release
    else None

-- with the kind k in place of its first word
abbrev call_with : List ℕ → ℕ → Option Call
call_with call k = call_by k (get_or call 1 0) (get_or call 2 0) (get_or call 3 0) (get_or call 4 0) (get_or call 5 0)

pub kind_is : (call : List ℕ) (kind : ℕ) → get_or call 0 0 ≡ kind → call_with call kind ≡ call_at call 0
unfolding call_at
kind_is call kind e = ap (call_with call) (sym e)

pub kind_none : (call : List ℕ) {kind : ℕ} → get_or call 0 0 ≡ kind
    → (kind ≡ 1 → ⊥) → (kind ≡ 2 → ⊥) → (kind ≡ 3 → ⊥) → (kind ≡ 4 → ⊥) → (kind ≡ 5 → ⊥) → (kind ≡ 6 → ⊥) → (kind ≡ 7 → ⊥)
    → None ≡ call_at call 0
kind_none call {kind} e a b c d f g h =
    let q : None ≡ call_with call kind = rw (ne_eqb kind 1 a, ne_eqb kind 2 b, ne_eqb kind 3 c, ne_eqb kind 4 d, ne_eqb kind 5 f, ne_eqb kind 6 g, ne_eqb kind 7 h) in
    q ∙ kind_is call kind e

-- ---- a list of calls, six words each

row_words : (k : ℕ) (calls : List ℕ) (i : ℕ) (none : List ℕ) → i < k → get_or (first_chunks 6 k calls) i none ≡ take 6 (drop (6 * i) calls)
row_words zero calls i none l = absurd (not-suc-le-zero l)
row_words (suc k) calls zero none l = refl
row_words (suc k) calls (suc i) none l =
    let e : 6 * suc i ≡ 6 + 6 * i = omega arith in
    row_words k (drop 6 calls) i none (le_of_suc-le-suc l) ∙ ap (take 6) (drop-drop (6 * i) 6 calls ∙ ap (λ (n : ℕ). drop n calls) (sym e))

row_word : (calls : List ℕ) (j k : ℕ) → k < 6 → get_or (take 6 (drop j calls)) k 0 ≡ get_or calls (j + k) 0
row_word calls j k l = get_or-take 6 (drop j calls) k 0 l ∙ get_or-drop j calls k 0

call_in : (calls : List ℕ) (j : ℕ) → call_at (take 6 (drop j calls)) 0 ≡ call_at calls j
unfolding call_at
call_in calls j =
    let w : (n : ℕ) → n < 6 → get_or (take 6 (drop j calls)) n 0 ≡ get_or calls (j + n) 0 = row_word calls j in
    λ x. call_by (w 0 (omega arith) x) (w 1 (omega arith) x) (w 2 (omega arith) x) (w 3 (omega arith) x) (w 4 (omega arith) x) (w 5 (omega arith) x)

-- what a row asks is the call that stands at its place in the list
pub row_call : (calls : List ℕ) (rows : List (List ℕ)) (i : ℕ) (none : List ℕ) {entry : Option Call} → entry ≡ call_at (get_or rows i none) 0
    → rows ≡ first_chunks 6 (length calls / 6) calls → i < length calls / 6 → entry ≡ call_at calls (6 * i)
row_call calls rows i none e f l =
    e ∙ ap (λ (x : List (List ℕ)). call_at (get_or x i none) 0) f ∙ ap (λ (row : List ℕ). call_at row 0) (row_words (length calls / 6) calls i none l) ∙ call_in calls (6 * i)

-- ---- a call on what passed the first tests

same : {said : Said} {y : Reply} {l' : Lent} (x : Returned) → said ≡ said_of y → y ≡ x.reply → l' ≡ x.lent → outcome said l' ≡ outcome_of x
unfolding outcome_of
same x f e g = λ i. outcome ((f ∙ ap said_of e) i) (g i)

module _ (p : Params) (w s m h : List ℕ) (e : lent_tests p (lend w s m h) ≡ Ok tt) where
  -- the call that the code found, its step and what is said of it
  pub call_made : {ask x : Ask} {said : Said} {y : Reply} {w' s' m' h' : List ℕ} → ask ≡ x → length w' ≡ length w
      → Does p (tables_of (view w) s m) h (call_of x) y (tables_of (view w') s' m') h' → said ≡ said_of y
      → outcome said (lend w' s' m' h') ≡ outcome_of (call p (lend w s m h) (call_of ask))
  call_made {ask} {x} a l d f =
      let q = lent_passed p w s m h (call_of x) (sym e) refl l d in
      same (call p (lend w s m h) (call_of x)) f q.reply q.lent ∙ ap (λ (z : Ask). outcome_of (call p (lend w s m h) (call_of z))) (sym a)

-- ---- an entry made

module _ (p : Params) (l : Lent) where
  pub entry_made : {entry : Option Ask} {ask : Ask} {o : Outcome} → entry ≡ Some ask → o ≡ outcome_of (call p l (call_of ask))
      → o ≡ outcome_of (made p l (entry_call entry))
  unfolding entry_call made
  entry_made e q = rw e q

  pub entry_none : {entry : Option Ask} {said : Said} → entry ≡ None → said ≡ said_of (refused BadLine)
      → outcome said l ≡ outcome_of (made p l (entry_call entry))
  unfolding entry_call made outcome_of
  entry_none e q = rw e (ap (λ (z : Said). outcome z l) q)

-- where the first tests refuse
pub call_refused : (p : Params) (w s m h : List ℕ) (ask : Ask) {x : Refusal} {said : Said} → lent_tests p (lend w s m h) ≡ Err x
    → said ≡ said_of (refused x) → outcome said (lend w s m h) ≡ outcome_of (call p (lend w s m h) (call_of ask))
call_refused p w s m h ask {x = x} e f =
    let q = lent_refused p w s m h (call_of ask) (sym e) refl in
    same (call p (lend w s m h) (call_of ask)) f q.reply q.lent

-- ---- what passed the first tests passes them again after an entry

made_sound : (p : Params) (l : Lent) (c : Option Call) → fits p l ≡ true → sound_on p (tables_in l) l.heap ≡ true
    → sound_on p (tables_in (made p l c).lent) (made p l c).lent.heap ≡ true
unfolding made SoundKept
made_sound p l (Some c) f g = sound_kept p l c f g
made_sound p l None f g = g

tests_passed : (p : Params) (l : Lent) → fits p l ≡ true → classes_fit p ≡ true → sound_on p (tables_in l) l.heap ≡ true → lent_tests p l ≡ Ok tt
unfolding lent_tests and_then
tests_passed p l f k g = rw (f, k, g)

fits_kept : (p : Params) (w s m h w' s' m' h' : List ℕ) → length w' ≡ length w → length s' ≡ length s → length m' ≡ length m → length h' ≡ length h
    → fits p (lend w s m h) ≡ true → fits p (lend w' s' m' h') ≡ true
unfolding fits
fits_kept p w s m h w' s' m' h' a b c d f = rw (a, b, c, d) f

lent_of : {said : Said} {l : Lent} (x : Returned) → outcome said l ≡ outcome_of x → l ≡ x.lent
unfolding outcome_of
lent_of x q = ap (λ (o : Outcome). o.lent) q

module _ (p : Params) (w s m h : List ℕ) (e : lent_tests p (lend w s m h) ≡ Ok tt) where
  pub passed_kept : (c : Option Call) {said : Said} {w' s' m' h' : List ℕ}
      → length w' ≡ length w → length s' ≡ length s → length m' ≡ length m → length h' ≡ length h
      → outcome said (lend w' s' m' h') ≡ outcome_of (made p (lend w s m h) c) → lent_tests p (lend w' s' m' h') ≡ Ok tt
  passed_kept c {said} {w'} {s'} {m'} {h'} lw ls lm lh q =
      let o = opened p w s m h e in
      let g : sound_on p (tables_in (made p (lend w s m h) c).lent) (made p (lend w s m h) c).lent.heap ≡ true =
      made_sound p (lend w s m h) c o.fit o.whole in
      tests_passed p (lend w' s' m' h') (fits_kept p w s m h w' s' m' h' lw ls lm lh o.fit) o.classes
      (subst (λ (l : Lent). sound_on p (tables_in l) l.heap ≡ true) (sym (lent_of (made p (lend w s m h) c) q)) g)

-- where they refuse, an entry is told so, and nothing changes
made_refused : (p : Params) (w s m h : List ℕ) (x : Refusal) (e : lent_tests p (lend w s m h) ≡ Err x) (c : Option Call)
    → made p (lend w s m h) c ≡ record { reply = refused_reply x c; lent = lend w s m h }
unfolding made refused_reply
made_refused p w s m h x e (Some c) =
    let q = lent_refused p w s m h c (sym e) refl in
    sym (λ i. record { reply = q.reply i; lent = q.lent i })
made_refused p w s m h x e None = refl

-- the first tests say of what an entry left what they said before
pub tests_kept : {A : Type 0} (r : Result A Refusal) (of : A → Params) (p : Params) (w s m h : List ℕ) → Tested r of p (lend w s m h)
    → (c : Option Call) {said : Said} {w' s' m' h' : List ℕ}
    → length w' ≡ length w → length s' ≡ length s → length m' ≡ length m → length h' ≡ length h
    → outcome said (lend w' s' m' h') ≡ outcome_of (made p (lend w s m h) c) → Tested r of p (lend w' s' m' h')
tests_kept (Ok a) of p w s m h e c lw ls lm lh q = (e.0, passed_kept p w s m h e.1 c lw ls lm lh q)
tests_kept (Err x) of p w s m h e c lw ls lm lh q =
    ap (lent_tests p) (lent_of (made p (lend w s m h) c) q ∙ ap (λ (r : Returned). r.lent) (made_refused p w s m h x e c)) ∙ e

-- so every entry of a list is, from the word i on
module _ (x : Refusal) (calls : List ℕ) (p : Params) (w s m h : List ℕ) (e : lent_tests p (lend w s m h) ≡ Err x) where
  pub run_refuses : (n i : ℕ) → run_from n p (lend w s m h) calls i ≡ ran (refused_from n x calls i) (lend w s m h)
  unfolding run_from refused_from
  run_refuses zero i = refl
  run_refuses (suc n) i = rw (made_refused p w s m h x e (call_at calls i), run_refuses n (i + 6))

-- ---- answers laid one behind the other

pub put_said : (at : ℕ) (said : Said) (b : List ℕ)
    → set (set (set (set (set b at said.number) (at + 1) said.first) (at + 2) said.second) (at + 3) said.third) (at + 4) said.fourth
    ≡ overwrite at (said_words said) b
unfolding said_words
put_said at said b =
    let b₁ = set b at said.number in
    let b₂ = set b₁ (at + 1) said.first in
    let b₃ = set b₂ (at + 2) said.second in
    let b₄ = set b₃ (at + 3) said.third in
    let b₅ = set b₄ (at + 4) said.fourth in
    let e₂ : at + 1 + 1 ≡ at + 2 = omega arith in
    let e₃ : at + 2 + 1 ≡ at + 3 = omega arith in
    let e₄ : at + 3 + 1 ≡ at + 4 = omega arith in
    let q₁ : overwrite at (said_words said) b ≡ overwrite (at + 1) (said.first ∷ said.second ∷ said.third ∷ said.fourth ∷ []) b₁ =
    overwrite_set at said.number (said.first ∷ said.second ∷ said.third ∷ said.fourth ∷ []) b in
    let q₂ : overwrite (at + 1) (said.first ∷ said.second ∷ said.third ∷ said.fourth ∷ []) b₁ ≡ overwrite (at + 2) (said.second ∷ said.third ∷ said.fourth ∷ []) b₂ =
    rw e₂ at (overwrite_set (at + 1) said.first (said.second ∷ said.third ∷ said.fourth ∷ []) b₁) in
    let q₃ : overwrite (at + 2) (said.second ∷ said.third ∷ said.fourth ∷ []) b₂ ≡ overwrite (at + 3) (said.third ∷ said.fourth ∷ []) b₃ =
    rw e₃ at (overwrite_set (at + 2) said.second (said.third ∷ said.fourth ∷ []) b₂) in
    let q₄ : overwrite (at + 3) (said.third ∷ said.fourth ∷ []) b₃ ≡ overwrite (at + 4) (said.fourth ∷ []) b₄ =
    rw e₄ at (overwrite_set (at + 3) said.third (said.fourth ∷ []) b₃) in
    let q₅ : overwrite (at + 4) (said.fourth ∷ []) b₄ ≡ b₅ = overwrite_set (at + 4) said.fourth [] b₄ ∙ overwrite_nil (at + 4 + 1) b₅ in
    sym (q₁ ∙ q₂ ∙ q₃ ∙ q₄ ∙ q₅)

overwrite_append : (vs us : List ℕ) (i : ℕ) (b : List ℕ) → overwrite i (vs ++ us) b ≡ overwrite (i + length vs) us (overwrite i vs b)
overwrite_append [] us i b = let z : i + 0 ≡ i = omega arith in rw (z, overwrite_nil i b)
overwrite_append (v ∷ vs) us i b =
    let z : i + 1 + length vs ≡ i + suc (length vs) = omega arith in
    overwrite_set i v (vs ++ us) b ∙ overwrite_append vs us (i + 1) (set b i v) ∙ rw (z, overwrite_set i v vs b)

overwrite_all : (vs b : List ℕ) → length vs ≡ length b → overwrite 0 vs b ≡ vs
unfolding overwrite
overwrite_all [] [] e = refl
overwrite_all [] (x ∷ b) e = absurd (let z : ◌≡◌ {A = ℕ} 0 (suc (length b)) = e in omega arith)
overwrite_all (v ∷ vs) [] e = absurd (let z : ◌≡◌ {A = ℕ} (suc (length vs)) 0 = e in omega arith)
overwrite_all (v ∷ vs) (x ∷ b) e = ap (λ (z : List ℕ). v ∷ z) (overwrite_all vs b (let z : suc (length vs) ≡ suc (length b) = e in omega arith))

length_said : (said : Said) → length (said_words said) ≡ 5
unfolding said_words
length_said said = refl

said_laid : (said : Said) (us : List ℕ) (i : ℕ) (b : List ℕ) → overwrite (i + 5) us (overwrite i (said_words said) b) ≡ overwrite i (said_words said ++ us) b
said_laid said us i b =
    sym (overwrite_append (said_words said) us i b ∙ ap (λ (n : ℕ). overwrite (i + n) us (overwrite i (said_words said) b)) (length_said said))

-- one round: an entry made and its answer put, then the rest
module _ (p : Params) (calls : List ℕ) where
  round_suc : (n from to : ℕ) (answers : List ℕ) (l : Lent) {l' : Lent} {said : Said}
      → outcome said l' ≡ outcome_of (made p l (call_at calls from))
      → laid (to + 5) (overwrite to (said_words said) answers) (run_from n p l' calls (from + 6)) ≡ laid to answers (run_from (suc n) p l calls from)
  unfolding laid run_from outcome_of
  round_suc n from to answers l {l'} {said} q =
      let r : Returned = made p l (call_at calls from) in
      let es : said ≡ said_of r.reply = ap (λ (o : Outcome). o.said) q in
      let el : l' ≡ r.lent = ap (λ (o : Outcome). o.lent) q in
      rw (el, es) (ap (λ (x : List ℕ). ran x (run_from n p r.lent calls (from + 6)).lent) (said_laid (said_of r.reply) (run_from n p r.lent calls (from + 6)).answers to answers))

  pub round : (n i : ℕ) (answers : List ℕ) (l : Lent) {l' : Lent} {answers' : List ℕ} {said : Said} → i < n
      → outcome said l' ≡ outcome_of (made p l (call_at calls (6 * i))) → answers' ≡ overwrite (5 * i) (said_words said) answers
      → laid (5 * (i + 1)) answers' (run_from (n - (i + 1)) p l' calls (6 * (i + 1))) ≡ laid (5 * i) answers (run_from (n - i) p l calls (6 * i))
  round n i answers l z q a =
      let k : n - i ≡ suc (n - (i + 1)) = omega (arith, z) in
      let f : 6 * (i + 1) ≡ 6 * i + 6 = omega arith in
      let t : 5 * (i + 1) ≡ 5 * i + 5 = omega arith in
      rw (k, f, t, a) (round_suc (n - (i + 1)) (6 * i) (5 * i) answers l q)

  pub round_end : (n i from to : ℕ) (answers : List ℕ) (l : Lent) → n ≤ i → laid to answers (run_from (n - i) p l calls from) ≡ ran answers l
  unfolding laid run_from
  round_end n i from to answers l z =
      let k : n - i ≡ 0 = omega (arith, z) in
      rw k (ap (λ (x : List ℕ). ran x l) (overwrite_nil to answers))

-- ---- `run` whole

length_answers : (n : ℕ) (p : Params) (l : Lent) (calls : List ℕ) (i : ℕ) → length (run_from n p l calls i).answers ≡ 5 * n
unfolding run_from
length_answers zero p l calls i = refl
length_answers (suc n) p l calls i =
    let r : Returned = made p l (call_at calls i) in
    length-append (words_of r.reply) (run_from n p r.lent calls (i + 6)).answers
    ∙ omega (arith, length_said (said_of r.reply), length_answers n p r.lent calls (i + 6))

module _ (p : Params) (l : Lent) (calls answers : List ℕ) where
  pub run_part : (length calls % 6 ≡ 0 → ⊥) → run_result (refused BadSetup) answers l ≡ run_calls p l calls answers
  unfolding run_calls lists_fit
  run_part n = rw (ne_eqb (length calls % 6) 0 n)

  module _ (z : length calls % 6 ≡ 0) where
    pub run_room : (length answers ≡ 5 * (length calls / 6) → ⊥) → run_result (refused BadSetup) answers l ≡ run_calls p l calls answers
    unfolding run_calls lists_fit
    run_room n = rw (eq-eqb (length calls % 6) 0 z, ne_eqb (length answers) (5 * (length calls / 6)) n)

    module _ (y : length answers ≡ 5 * (length calls / 6)) where
      run_ran : {answers' : List ℕ} {l' : Lent} → ran answers' l' ≡ run_from (length calls / 6) p l calls 0
          → run_result (answered []) answers' l' ≡ run_calls p l calls answers
      unfolding run_calls lists_fit
      run_ran q =
          rw (eq-eqb (length calls % 6) 0 z, eq-eqb (length answers) (5 * (length calls / 6)) y)
          (ap (λ (r : RowRan). run_result (answered []) r.answers r.lent) q)

      pub run_done : {answers' : List ℕ} {l' : Lent} → ran answers' l' ≡ laid 0 answers (run_from (length calls / 6) p l calls 0)
          → run_result (answered []) answers' l' ≡ run_calls p l calls answers
      unfolding laid
      run_done q =
          let r : RowRan = run_from (length calls / 6) p l calls 0 in
          run_ran (q ∙ ap (λ (x : List ℕ). ran x r.lent) (overwrite_all r.answers answers (length_answers (length calls / 6) p l calls 0 ∙ sym y)))
