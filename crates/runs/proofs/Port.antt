-- Demand 3 of the port, as the model states it: a chain of promises is the machine's run, so what holds of the one holds of the
-- other. Assumes nothing of the port but its promises.
use mathlib.Core.Path.{◌≡◌, refl, sym, ap, ◌∙◌, subst}
use mathlib.Core.List.{List, [], ◌∷◌, map}
use Prim.Native.Nat.{ℕ}
use Rattle.model.specs.declared.Params.{Params}
use Rattle.model.specs.Calls.{Reply, answered, Returned, set_up, pages}
use Rattle.model.specs.Runs.{Turn, State, step_of, result_of, turned, empty_book, begun, Seen, seen, seen_in, RunKeeps, Demand3}
use Rattle.model.specs.Port.{Made, EachPromised, PortRun, turns_of, port_begun, port_turned, port_seen, PortKeeps, ran, IsRun, Demand3OfThePort}
use Rattle.runs.proofs.Demand3.{demand3}

module _ (p : Params) where
  -- ---- the machine's own calls

  -- they keep the promises
  pub ran_chain : (us : List Turn) (s : State) → EachPromised p s.lent (ran p s us)
  unfolding EachPromised ran turned result_of
  ran_chain [] s = tt
  ran_chain (u ∷ us) s = (record { reply = refl; lent = refl }, ran_chain us (turned p s u))

  pub ran_turns : (us : List Turn) (s : State) → turns_of (ran p s us) ≡ us
  unfolding ran
  ran_turns [] s = refl
  ran_turns (u ∷ us) s = ap (λ (x : List Turn). u ∷ x) (ran_turns us (turned p s u))

  ran_seen : (us : List Turn) (s : State) → port_seen p s (ran p s us) ≡ seen_in p s us
  unfolding ran port_seen port_turned seen_in turned
  ran_seen [] s = refl
  ran_seen (u ∷ us) s = ap (λ (x : List Seen). seen (result_of p s u) (step_of p s u).events ∷ x) (ran_seen us (turned p s u))

  ran_keeps : (us : List Turn) (s : State) → RunKeeps p s us → PortKeeps p s (ran p s us)
  unfolding ran PortKeeps port_turned RunKeeps turned
  ran_keeps [] s k = tt
  ran_keeps (u ∷ us) s k = (k.0.keeps, ran_keeps us (turned p s u) k.1)

  -- ---- a chain of promises has no other calls

  chain_ran : (ms : List Made) (s : State) → EachPromised p s.lent ms → ms ≡ ran p s (turns_of ms)
  unfolding EachPromised ran turned result_of
  chain_ran [] s c = refl
  chain_ran (m ∷ ms) s c =
      let q : m.gave ≡ result_of p s m.turn = λ i. record { reply = c.0.reply i; lent = c.0.lent i } in
      let rest : ms ≡ ran p (turned p s m.turn) (turns_of ms) =
      chain_ran ms (turned p s m.turn) (subst (λ (x : Returned). EachPromised p x.lent ms) q c.1) in
      λ i. record { turn = m.turn; gave = q i } ∷ rest i

  -- ---- a run of the port

  module _ (a : PortRun p) where
    first_is : a.first ≡ set_up p a.given
    first_is = λ i. record { reply = a.set_up_kept.reply i; lent = a.set_up_kept.lent i }

    begun_is : port_begun a ≡ begun p a.given
    unfolding port_begun begun
    begun_is = ap (λ (x : Returned). record { lent = x.lent; book = empty_book }) first_is

    pub is_run : IsRun p a
    unfolding port_begun begun
    is_run =
        record {
          set_ups = first_is;
          calls = chain_ran a.made (begun p a.given) (subst (λ (x : Returned). EachPromised p x.lent a.made) first_is a.calls_kept);
        }

    -- what is shown of the machine's calls from where it begins holds of the port's
    as_run : (P : State → List Made → Type 0) → P (begun p a.given) (ran p (begun p a.given) (turns_of a.made)) → P (port_begun a) a.made
    as_run P k = subst (λ (x : State). P x a.made) (sym begun_is) (subst (P (begun p a.given)) (sym is_run.calls) k)

    seen_is : port_seen p (port_begun a) a.made ≡ seen_in p (begun p a.given) (turns_of a.made)
    seen_is =
        as_run (λ (s : State) (ms : List Made). port_seen p s ms ≡ seen_in p (begun p a.given) (turns_of a.made))
        (ran_seen (turns_of a.made) (begun p a.given))

    answers : a.first.reply ≡ answered [] → (set_up p a.given).reply ≡ answered []
    answers e = sym (ap (λ (x : Returned). x.reply) first_is) ∙ e

    run_keeps : RunKeeps p (begun p a.given) (turns_of a.made) → PortKeeps p (port_begun a) a.made
    run_keeps k = as_run (PortKeeps p) (ran_keeps (turns_of a.made) (begun p a.given) k)

  -- the words that a reader sees
  words_seen : (ms : List Made) (s : State) (f : List ℕ → Reply) → map (λ (x : Seen). f x.words) (port_seen p s ms) ≡ map (λ (m : Made). f m.gave.lent.words) ms
  unfolding port_seen
  words_seen [] s f = refl
  words_seen (m ∷ ms) s f = ap (λ (x : List Reply). f m.gave.lent.words ∷ x) (words_seen ms (port_turned p s m) f)

-- ---- the theorem

pub demand3_of_the_port : Demand3OfThePort
unfolding Demand3OfThePort Demand3
demand3_of_the_port p a b e e' H H' same =
    let d = demand3 p a.given b.given (turns_of a.made) (turns_of b.made) (answers p a e) (answers p b e') H H' same in
    let set_ups : seen a.first [] ≡ seen b.first [] =
    ap (λ (x : Returned). seen x []) (first_is p a) ∙ d.0.set_ups ∙ sym (ap (λ (x : Returned). seen x []) (first_is p b)) in
    let calls : port_seen p (port_begun a) a.made ≡ port_seen p (port_begun b) b.made =
    seen_is p a ∙ d.0.calls ∙ sym (seen_is p b) in (
      (is_run p a, is_run p b),
      record {
        set_ups = set_ups;
        calls = calls;
        pages_at_set_up = λ firsts. ap (λ (x : Seen). pages p x.words firsts) set_ups;
        pages_after = λ firsts.
            sym (words_seen p a.made (port_begun a) (λ (w : List ℕ). pages p w firsts))
            ∙ ap (map (λ (x : Seen). pages p x.words firsts)) calls
            ∙ words_seen p b.made (port_begun b) (λ (w : List ℕ). pages p w firsts);
      },
      run_keeps p a d.1,
      run_keeps p b d.2,
    )
