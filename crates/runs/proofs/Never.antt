-- No call of a run from set-up is refused BadTables, whatever is called, if holders write only what they hold. Demand 3 does not lean
-- on it, and it leans on more: that calls keep tables sound. Assumes nothing.
use mathlib.Core.Path.{◌≡◌, sym, ap, ◌∙◌, subst}
use mathlib.Core.Logic.{◌≢◌, ⊎_elim}
use mathlib.Core.Bool.{true}
use mathlib.Core.List.{List, [], ◌∷◌}
use Prim.Native.Nat.{ℕ}
use lib.ListN.{replicate}
use Rattle.model.specs.declared.Params.{Params}
use Rattle.model.specs.Base.{In}
use Rattle.model.specs.Params.{good_params, fits}
use Rattle.model.specs.Classes.{classes_fit}
use Rattle.model.specs.Tables.{Tables}
use Rattle.model.specs.Global.{fresh_tables}
use Rattle.model.specs.Calls.{refusal_number, Call, step, Returned}
use Rattle.model.specs.Refusals.{NoBadTables}
use Rattle.model.specs.Runs.{Book, book_after, written, Turn, State, empty_book, begun, HoldersWrite, Seen, seen_in}
use Rattle.laws.proofs.Lent.{fits_parts, answered_fits, answered_classes, set_up_is}
use Rattle.soundness.proofs.Kept.{Sound, kept_sound, fresh_sound, sound_on_lem, step_sound}
use Rattle.soundness.proofs.Replies.{never_bad}
use Rattle.runs.proofs.Plans.{Inv}
use Rattle.runs.proofs.Finish.{StepOk}
use Rattle.runs.proofs.Calls.{shadow_step, chains_pass}
use Rattle.runs.proofs.Demand3.{bounds, state_of, J, S, result_of_lem, turn_of, fresh_inv}

module _ (p : Params) (fine : good_params p ≡ true) (rows : classes_fit p ≡ true) where
  never : (us : List Turn) (t : Tables) (h : List ℕ) (sh : List (List ℕ)) (bk : Book) → Inv p (bounds p fine rows) t h sh bk → Sound p (bounds p fine rows) t h
      → HoldersWrite p (state_of p fine rows t h bk) us → (x : Seen) → In x (seen_in p (state_of p fine rows t h bk) us) → x.reply.number ≢ 2
  unfolding seen_in HoldersWrite In
  never [] t h sh bk I K H x m = absurd m
  never (u ∷ us) t h sh bk I K H x m =
      let g : List ℕ = written p u.writes h in
      let c : Call = u.call in
      let e = turn_of p fine rows t h sh bk I u H.0 in
      let O : StepOk p (bounds p fine rows) g bk c (step p t g c) (shadow_step p t sh c) = S p fine rows t h sh bk I u H.0 in
      let G : Inv p (bounds p fine rows) t g sh bk = J p fine rows t h sh bk I u H.0 in
      let N : Sound p (bounds p fine rows) t g = kept_sound p (bounds p fine rows) t g K.kept G.core.chains.heap K.eager (chains_pass p fine rows t g sh bk G) in
      ⊎_elim
      (λ q z. never_bad p t g c (sound_on_lem p (bounds p fine rows) t g N)
      (sym (ap (λ (r : Returned). r.reply.number) (result_of_lem p fine rows t h sh bk I u H.0)) ∙ sym (ap (λ (y : Seen). y.reply.number) q) ∙ z))
      (λ i. never us (step p t g c).tables (step p t g c).heap (shadow_step p t sh c).shadow (book_after p c (step p t g c) bk) O.inv
      (step_sound p (bounds p fine rows) rows t g c N) (subst (λ (y : State). HoldersWrite p y us) e H.1) x
      (subst (λ (y : State). In x (seen_in p y us)) e i)) m

pub no_bad_tables : NoBadTables
unfolding NoBadTables begun refusal_number
no_bad_tables p l us e H x m =
    let f : fits p l ≡ true = answered_fits p l e in
    let fine : good_params p ≡ true = (fits_parts p l f).0 in
    let rows : classes_fit p ≡ true = answered_classes p l e in
    let at : begun p l ≡ state_of p fine rows (fresh_tables p) l.heap empty_book =
    ap (λ (x : Returned). record { lent = x.lent; book = empty_book }) (set_up_is p l f rows) in
    never p fine rows us (fresh_tables p) l.heap (replicate p.blocks []) empty_book (fresh_inv p fine rows l.heap (fits_parts p l f).1) (fresh_sound p (bounds p fine rows) l.heap (fits_parts p l f).1)
    (subst (λ (y : State). HoldersWrite p y us) at H) x (subst (λ (y : State). In x (seen_in p y us)) at m)
