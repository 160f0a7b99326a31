-- R-6's counts are those of the blocks themselves. Each block in use names a list of one owner; an append of one owner's list to
-- another's takes as many blocks over as it counts, and releases leave each block with its owner. So the sum over an owner's
-- lists is the number of its blocks, and they are those that go over. Assumes nothing.
use Rattle.std.specs.Prelude.{if◌then◌else◌}
use mathlib.Core.Path.{◌≡◌, refl, sym, ap, ◌∙◌, subst}
use mathlib.Core.Logic.{◌≢◌, ◌⊎◌, inl, inr, ⊎_elim}
use mathlib.Core.Bool.{Bool, true, false, not, ◌&&◌}
use mathlib.Core.List.{List, [], ◌++◌}
use Prim.Native.Nat.{ℕ, zero, suc, ◌+◌, ◌-◌, ◌*◌, ◌/◌, ◌<◌, ◌≤◌}
use native.Mathlib.Omega.{arith}
use native.Mathlib.Decide.{ℕ_discrete}
use lib.Dec.{eqb, ltb, leb}
use lib.ListN.{length, get_or, set, replicate}
use borrow.Author.Tests.{eqb-true, eq-eqb, ne_eqb, ltb-true, leb-true, lt-ltb, le-leb}
use Rattle.model.specs.declared.Params.{Params}
use Rattle.model.specs.Base.{In, member, flag, sum_below, each_below}
use Rattle.model.specs.Params.{Lent, list_word, local_sets, available, unswept, consumed, bins}
use Rattle.model.specs.Tables.{Words, view, set_phase, set_released, with_released}
use Rattle.model.specs.BlockList.{remove, append, blocks_on, appended}
use Rattle.model.specs.Block.{clear_block}
use Rattle.model.specs.Global.{abandon_bin, abandon_blocks, abandoned_bin, abandoned_below, abandoned_blocks, Freed, freed, release_blocks, append_to, release_bin, release_holder, sweep_later_bin, sweep_later, all_released, part_released, merged}
use Rattle.model.specs.Sound.{list_named, set_named}
use Rattle.model.specs.Refusals.{is_of, blocks_of, went_over}
use Rattle.laws.proofs.Base.{Bool_cases, in_member, member_in, in_append_left, in_append_right}
use Rattle.laws.proofs.Below.{and_both, and_first, and_second, and_left, and_right, same_test, true_not_false}
use Rattle.laws.proofs.Params.{Bounds}
use Rattle.laws.proofs.Stores.{set_at, set_off}
use Rattle.laws.proofs.Pigeon.{sum_same, sum_zero, sum_add, members_count, flag_one, flag_none}
use Rattle.laws.proofs.Walks.{Numbered, available_numbered, unswept_numbered, consumed_numbered, released_one, bins_keep, later_keeps, abandon_keeps}
use Rattle.soundness.proofs.Lists.{Lists, AllOn, Off, put, put_same, put_other, put_in_lem, on_list, free_off, lists_distinct, none_first, seg_under}
use Rattle.soundness.proofs.Removes.{without, without_in, append_lists}
use Rattle.soundness.proofs.SoundLists.{lists_walk}
use Rattle.soundness.proofs.GoodTables.{GoodTables}
use Rattle.soundness.proofs.Owners.{abandon_empties}
use Rattle.soundness.proofs.Release.{GoodBy, append_placed, blocks_good_with, to_good, released_lists, abandon_good}

-- ---- owners

-- the owner of the list that a block names: 0 to 7 the holders 1 to 8, 8 abandoned, 9 in-gc
unfoldable pub owner_of : Words → ℕ → ℕ
owner_of w b = list_named w b / 147

-- the block is in use and its owner is j
abbrev pub of : ℕ → Words → List ℕ → ℕ → Bool
of j w st b = not (eqb (get_or st b 0) 0) && eqb (owner_of w b) j

-- how many are
unfoldable pub count : ℕ → ℕ → Words → List ℕ → ℕ
count n j w st = sum_below n (λ b. flag (of j w st b))

-- as the statements say it
pub is_of_lem : (j : ℕ) (l : Lent) (b : ℕ) → is_of (3 * j) l b ≡ of j (view l.words) l.states b
unfolding is_of set_named owner_of
is_of_lem j l b = ap (λ (x : Bool). not (eqb (get_or l.states b 0) 0) && x) (same_test _ _ there back)
  where
    n : ℕ
    n = list_named (view l.words) b

    there : (leb (3 * j) (n / 49) && ltb (n / 49) (3 * j + 3)) ≡ true → eqb (n / 147) j ≡ true
    there e =
        let lo = leb-true (3 * j) (n / 49) (and_left (leb (3 * j) (n / 49)) _ e) in
        let hi = ltb-true (n / 49) (3 * j + 3) (and_right (leb (3 * j) (n / 49)) _ e) in
        eq-eqb (n / 147) j (omega arith)

    back : eqb (n / 147) j ≡ true → (leb (3 * j) (n / 49) && ltb (n / 49) (3 * j + 3)) ≡ true
    back e =
        let q = eqb-true (n / 147) j e in
        and_both (le-leb (3 * j) (n / 49) (omega arith)) (lt-ltb (n / 49) (3 * j + 3) (omega arith))

-- words that name the same lists have the same owners
pub same_owner : (w w' : Words) (b : ℕ) → get_or w'.list b 0 ≡ get_or w.list b 0 → owner_of w' b ≡ owner_of w b
unfolding owner_of list_named
same_owner w w' b e = ap (λ (x : ℕ). (x - 1) / 147) e

-- phase and released marks name no list
pub releasing_owner : (part : ℕ) (w : Words) (b : ℕ) → owner_of (set_released part 1 (set_phase 2 w)) b ≡ owner_of w b
unfolding owner_of list_named set_released set_phase
releasing_owner part w b = refl

running_owner : (rs : List ℕ) (w : Words) (b : ℕ) → owner_of (set_phase 0 (with_released rs w)) b ≡ owner_of w b
unfolding owner_of list_named set_phase with_released
running_owner rs w b = refl

module _ (p : Params) where
  -- a block on the list l has its owner
  on_owner : {st : List ℕ} {w : Words} {L : ℕ → List ℕ} → Lists p st w L → (l b : ℕ) → l < 1470 → In b (L l) → owner_of w b ≡ l / 147
  unfolding owner_of list_named list_word
  on_owner {st} {w} K l b low i =
      let e : get_or w.list b 0 ≡ 1 + l = (on_list p K l b low i).names in
      ap (λ (x : ℕ). (x - 1) / 147) e ∙ ap (λ (x : ℕ). x / 147) (one_less l)
    where
      one_less : (k : ℕ) → 1 + k - 1 ≡ k
      one_less k = omega arith

module _ (p : Params) (B : Bounds p) (ms : List ℕ) where
  -- ---- one append: the blocks of the other list change their owner, no others do

  module _ (w : Words) (st : List ℕ) (H : GoodTables p ms w st) {l o i j bin : ℕ} (P : Numbered l i bin) (Q : Numbered o j bin) (ne : l ≢ o) where
    abbrev L : ℕ → List ℕ
    L = H.lists

    abbrev M : ℕ → List ℕ
    M = put o [] (put l (L l ++ L o) L)

    K : Lists p st (append p l o w) M
    K = append_lists p B st w H.sized L H.good.lists l o P.low Q.low ne

    on_l : (b : ℕ) → In b (L l ++ L o) → In b (M l)
    on_l b x = rw (put_other o [] (put l (L l ++ L o) L) l ne, put_same l (L l ++ L o) L) x

    pub appended_in : (b : ℕ) → In b (L o) → (owner_of w b ≡ j) × (owner_of (append p l o w) b ≡ i)
    appended_in b x = (
      on_owner p H.good.lists o b Q.low x ∙ Q.owner,
      on_owner p K l b P.low (on_l b (in_append_right b (L l) (L o) x)) ∙ P.owner,
    )

    pub named_in : (b : ℕ) → In b (L o) → (get_or w.list b 0 ≡ list_word o) × (get_or (append p l o w).list b 0 ≡ list_word l)
    named_in b x = (
      (on_list p H.good.lists o b Q.low x).names,
      (on_list p K l b P.low (on_l b (in_append_right b (L l) (L o) x))).names,
    )

    -- a block that is not on the other list names the list it named
    pub named_out : (b : ℕ) → b < p.blocks → get_or st b 0 ≢ 0 → (In b (L o) → ⊥) → get_or (append p l o w).list b 0 ≡ get_or w.list b 0
    unfolding AllOn
    named_out b low occ out =
        let m = H.good.on b low occ in
        let f : m.0 ≢ o = λ e. out (subst (λ (x : ℕ). In b (L x)) e m.2) in
        (on_list p K m.0 b m.1 (stays m.0 m.2 f (ℕ_discrete m.0 l))).names ∙ sym (on_list p H.good.lists m.0 b m.1 m.2).names
      where
        stays : (m : ℕ) → In b (L m) → m ≢ o → Dec (m ≡ l) → In b (M m)
        stays m x f (yes e) = subst (λ (k : ℕ). In b (M k)) (sym e) (on_l b (in_append_left b (L l) (L o) (subst (λ (k : ℕ). In b (L k)) e x)))
        stays m x f (no g) = rw (put_other o [] (put l (L l ++ L o) L) m f, put_other l (L l ++ L o) L m g) x

    pub appended_out : (b : ℕ) → b < p.blocks → get_or st b 0 ≢ 0 → (In b (L o) → ⊥) → owner_of (append p l o w) b ≡ owner_of w b
    appended_out b low occ out = same_owner w (append p l o w) b (named_out b low occ out)

    -- as many as are counted
    pub append_count : i ≢ j → count p.blocks j w st ≡ appended p o w + count p.blocks j (append p l o w) st
    unfolding count appended Off
    append_count apart =
        sum_same p.blocks _ _ each
        ∙ sum_add p.blocks (λ b. flag (member b (L o))) (λ b. flag (of j (append p l o w) st b))
        ∙ ap (λ (x : ℕ). x + sum_below p.blocks (λ b. flag (of j (append p l o w) st b))) (sym long)
      where
        long : length (blocks_on p o w) ≡ sum_below p.blocks (λ b. flag (member b (L o)))
        long =
            ap length (lists_walk p B st w L H.good.lists o Q.low)
            ∙ members_count p.blocks (L o) (lists_distinct p H.good.lists B o Q.low)
            (seg_under p st w (list_word o) (get_or w.last o 0) 0 (get_or w.first o 0) (L o) (H.good.lists.seg o Q.low))

        free : (b : ℕ) → get_or st b 0 ≡ 0 → member b (L o) ≡ false
        free b z = ⊎_elim (λ y. absurd (free_off p H.good.lists b z o Q.low (member_in b (L o) y))) (λ n. n) (Bool_cases (member b (L o)))

        used : (b : ℕ) → b < p.blocks → get_or st b 0 ≢ 0 → (member b (L o) ≡ true) ⊎ (member b (L o) ≡ false)
            → flag (of j w st b) ≡ flag (member b (L o)) + flag (of j (append p l o w) st b)
        used b low occ (inl y) =
            let e = appended_in b (member_in b (L o) y) in
            rw (y, ne_eqb (get_or st b 0) 0 occ, eq-eqb (owner_of w b) j e.0, ne_eqb (owner_of (append p l o w) b) j (λ q. apart (sym e.1 ∙ q)))
            (omega (arith, flag_one {b = true} refl, flag_none {b = false} refl))
        used b low occ (inr n) =
            rw (n, appended_out b low occ (λ x. true_not_false (sym (in_member b (L o) x) ∙ n))) (omega (arith, flag_none {b = false} refl))

        each : (b : ℕ) → b < p.blocks → flag (of j w st b) ≡ flag (member b (L o)) + flag (of j (append p l o w) st b)
        each b low = go (ℕ_discrete (get_or st b 0) 0)
          where
            go : Dec (get_or st b 0 ≡ 0) → flag (of j w st b) ≡ flag (member b (L o)) + flag (of j (append p l o w) st b)
            go (yes z) = rw (free b z, eq-eqb (get_or st b 0) 0 z) (omega (arith, flag_none {b = false} refl))
            go (no occ) = used b low occ (Bool_cases (member b (L o)))

  -- ---- an owner's lists put behind another's

  module _ (i j : ℕ) (li : i < 10) (lj : j < 10) (ne : i ≢ j) (shared : 8 ≤ i) (st : List ℕ) where
    -- lists of the two are two
    two : {l o bin : ℕ} → Numbered l i bin → Numbered o j bin → l ≢ o
    two P Q e = ne (sym P.owner ∙ ap (λ (x : ℕ). x / 147) e ∙ Q.owner)

    after : {l o bin : ℕ} (w : Words) → Numbered l i bin → Numbered o j bin → GoodTables p ms w st → GoodTables p ms (append p l o w) st
    after w P Q H = append_placed p B ms w st P Q (two P Q) (λ low. absurd (omega arith)) H

    -- one bin
    bin_count : (bin : ℕ) → bin < 49 → (w : Words) → GoodTables p ms w st
        → GoodTables p ms (abandon_bin p (3 * i) (3 * j) bin w) st
        × (count p.blocks j w st ≡ abandoned_bin p (3 * i) (3 * j) bin w + count p.blocks j (abandon_bin p (3 * i) (3 * j) bin w) st)
    unfolding abandon_bin abandoned_bin
    bin_count bin lb w H = (H₃, omega (arith, append_count w st H a fa (two a fa) ne, append_count w₁ st H₁ c fc (two c fc) ne, append_count w₂ st H₂ u fu (two u fu) ne))
      where
        a : Numbered (available (3 * i) bin) i bin
        a = available_numbered i bin li lb

        c : Numbered (consumed (3 * i) bin) i bin
        c = consumed_numbered i bin li lb

        u : Numbered (unswept (3 * i) bin) i bin
        u = unswept_numbered i bin li lb

        fa : Numbered (available (3 * j) bin) j bin
        fa = available_numbered j bin lj lb

        fc : Numbered (consumed (3 * j) bin) j bin
        fc = consumed_numbered j bin lj lb

        fu : Numbered (unswept (3 * j) bin) j bin
        fu = unswept_numbered j bin lj lb

        w₁ : Words
        w₁ = append p (available (3 * i) bin) (available (3 * j) bin) w

        w₂ : Words
        w₂ = append p (consumed (3 * i) bin) (consumed (3 * j) bin) w₁

        H₁ : GoodTables p ms w₁ st
        H₁ = after w a fa H

        H₂ : GoodTables p ms w₂ st
        H₂ = after w₁ c fc H₁

        H₃ : GoodTables p ms (append p (unswept (3 * i) bin) (unswept (3 * j) bin) w₂) st
        H₃ = after w₂ u fu H₂

    -- the bins below n
    bins_count : (n : ℕ) → n ≤ 49 → (w : Words) → GoodTables p ms w st
        → GoodTables p ms (each_below n (abandon_bin p (3 * i) (3 * j)) w) st
        × (count p.blocks j w st ≡ abandoned_below n p (3 * i) (3 * j) w + count p.blocks j (each_below n (abandon_bin p (3 * i) (3 * j)) w) st)
    unfolding abandoned_below sum_below each_below
    bins_count zero le w H = (H, omega arith)
    bins_count (suc n) le w H =
        let before = bins_count n (omega arith) w H in
        let here = bin_count n (omega arith) (each_below n (abandon_bin p (3 * i) (3 * j)) w) before.0 in
        (here.0, omega (arith, before.1, here.1))

    -- how the owners change: j to i, and no other
    abbrev Changed : Words → Words → ℕ → Type 0
    Changed w u b = ((owner_of w b ≢ j) × (owner_of u b ≡ owner_of w b)) ⊎ ((owner_of w b ≡ j) × (owner_of u b ≡ i))

    module _ (w : Words) (H : GoodTables p ms w st) where
      record So (u : Words) : Type 0 where
        good : GoodTables p ms u st
        own : (b : ℕ) → b < p.blocks → get_or st b 0 ≢ 0 → (owner_of u b ≡ owner_of w b) ⊎ ((owner_of w b ≡ j) × (owner_of u b ≡ i))

      so_far : (l o bin : ℕ) → Numbered l i bin → Numbered o j bin → (u : Words) → So u → So (append p l o u)
      so_far l o bin P Q u S = record { good = after u P Q S.good; own = λ b low occ. go b low occ (Bool_cases (member b (S.good.lists o))) (S.own b low occ) }
        where
          go : (b : ℕ) → b < p.blocks → get_or st b 0 ≢ 0 → (member b (S.good.lists o) ≡ true) ⊎ (member b (S.good.lists o) ≡ false)
              → (owner_of u b ≡ owner_of w b) ⊎ ((owner_of w b ≡ j) × (owner_of u b ≡ i))
              → (owner_of (append p l o u) b ≡ owner_of w b) ⊎ ((owner_of w b ≡ j) × (owner_of (append p l o u) b ≡ i))
          go b low occ (inl y) (inl e) =
              let x = appended_in u st S.good P Q (two P Q) b (member_in b (S.good.lists o) y) in
              inr (sym e ∙ x.0, x.1)
          go b low occ (inl y) (inr e) =
              let x = appended_in u st S.good P Q (two P Q) b (member_in b (S.good.lists o) y) in
              inr (e.0, x.1)
          go b low occ (inr n) e =
              let x = appended_out u st S.good P Q (two P Q) b low occ (λ y. true_not_false (sym (in_member b (S.good.lists o) y) ∙ n)) in
              ⊎_elim (λ q. inl (x ∙ q)) (λ q. inr (q.0, x ∙ q.1)) e

      all_so : So (abandon_blocks p (3 * i) (3 * j) w)
      all_so = abandon_keeps p i j li lj So so_far w (record { good = H; own = λ b low occ. inl refl })

      -- none is left
      none_left : (b : ℕ) → b < p.blocks → get_or st b 0 ≢ 0 → owner_of (abandon_blocks p (3 * i) (3 * j) w) b ≢ j
      unfolding In AllOn
      none_left b low occ e =
          let G = all_so.good.good in
          let m = G.on b low occ in
          let own : m.0 / 147 ≡ j = sym (on_owner p G.lists m.0 b m.1 m.2) ∙ e in
          let none = none_first p B G.lists m.0 m.1 (abandon_empties p i j w H.sized ne li lj m.0 own) in
          subst (In b) none m.2

      pub abandoned_owner : (b : ℕ) → b < p.blocks → get_or st b 0 ≢ 0 → Changed w (abandon_blocks p (3 * i) (3 * j) w) b
      abandoned_owner b low occ = go (ℕ_discrete (owner_of w b) j) (all_so.own b low occ)
        where
          go : Dec (owner_of w b ≡ j)
              → (owner_of (abandon_blocks p (3 * i) (3 * j) w) b ≡ owner_of w b) ⊎ ((owner_of w b ≡ j) × (owner_of (abandon_blocks p (3 * i) (3 * j) w) b ≡ i))
              → Changed w (abandon_blocks p (3 * i) (3 * j) w) b
          go (yes e) (inl q) = absurd (none_left b low occ (q ∙ e))
          go (no f) (inl q) = inl (f, q)
          go d (inr q) = inr q

      -- so all of them were counted
      pub abandoned_count : abandoned_blocks p (3 * i) (3 * j) w ≡ count p.blocks j w st
      unfolding abandoned_blocks abandon_blocks count
      abandoned_count = omega (arith, (bins_count 49 (omega arith) w H).1, none)
        where
          none : count p.blocks j (each_below 49 (abandon_bin p (3 * i) (3 * j)) w) st ≡ 0
          none = sum_same p.blocks _ (λ b. 0) (λ b low. off b low (ℕ_discrete (get_or st b 0) 0)) ∙ sum_zero p.blocks
            where
              off : (b : ℕ) → b < p.blocks → Dec (get_or st b 0 ≡ 0) → flag (of j (each_below 49 (abandon_bin p (3 * i) (3 * j)) w) st b) ≡ 0
              off b low (yes z) = flag_none (and_first (eqb (owner_of (each_below 49 (abandon_bin p (3 * i) (3 * j)) w) b) j) (ap not (eq-eqb (get_or st b 0) 0 z)))
              off b low (no occ) = flag_none (and_second (not (eqb (get_or st b 0) 0)) (ne_eqb (owner_of (each_below 49 (abandon_bin p (3 * i) (3 * j)) w) b) j (none_left b low occ)))

  -- ---- releases leave each block with its owner

  module _ (w : Words) (st : List ℕ) where
    -- good tables, in which the blocks in use are as they were and have the owner they had
    record Followed (f : Freed) : Type 0 where
      own : (b : ℕ) → b < p.blocks → get_or f.states b 0 ≢ 0 → owner_of f.words b ≡ owner_of w b
      used : (b : ℕ) → get_or f.states b 0 ≢ 0 → get_or st b 0 ≢ 0

    abbrev Follows : Freed → Type 0
    Follows f = GoodBy p B ms f × Followed f

    one_followed : (l : ℕ) → l < 1470 → (f : Freed) (H : GoodBy p B ms f) (b : ℕ) → In b (H.lists l) → Followed f → Followed (released_one p l b f)
    unfolding AllOn
    one_followed l ll f H b i F = record { own = λ x low occ. here x low occ (ℕ_discrete x b); used = λ x occ. F.used x (before x occ (ℕ_discrete x b)) }
      where
        lb : b < length f.states
        lb = omega (arith, (on_list p H.good.lists l b ll i).low, H.states)

        gone : get_or (set f.states b 0) b 0 ≡ 0
        gone = set_at f.states b 0 lb

        before : (x : ℕ) → get_or (set f.states b 0) x 0 ≢ 0 → Dec (x ≡ b) → get_or f.states x 0 ≢ 0
        before x occ (yes e) z = occ (ap (λ (k : ℕ). get_or (set f.states b 0) k 0) e ∙ gone)
        before x occ (no g) z = occ (set_off f.states b 0 x g ∙ z)

        here : (x : ℕ) → x < p.blocks → get_or (set f.states b 0) x 0 ≢ 0 → Dec (x ≡ b) → owner_of (clear_block b (remove p l b f.words)) x ≡ owner_of w x
        here x low occ (yes e) = absurd (occ (ap (λ (k : ℕ). get_or (set f.states b 0) k 0) e ∙ gone))
        here x low occ (no g) =
            let o = before x occ (no g) in
            let m = H.good.on x low o in
            on_owner p (released_lists p B ms f.words f.states H l b ll i) m.0 x m.1
            (put_in_lem l (without b (H.lists l)) H.lists m.0 x (λ e. without_in b x (H.lists l) (subst (λ (k : ℕ). In x (H.lists k)) e m.2) g) (λ n. m.2))
            ∙ sym (on_owner p H.good.lists m.0 x m.1 m.2) ∙ F.own x low o

    blocks_follow : (o l bin : ℕ) → Numbered l o bin → (f : Freed) → Follows f → Follows (release_blocks p l f)
    blocks_follow o l bin N f F = blocks_good_with p B ms l bin o N Followed (one_followed l N.low) f F.0 F.1

    -- an append to a list of the same owner
    append_follow : (i l o bin : ℕ) → Numbered l i bin → Numbered o i bin → l ≢ o → (f : Freed) → Follows f → Follows (append_to p l o f)
    unfolding append_to
    append_follow i l o bin P Q ne f F = (to_good p B ms l o bin i P Q ne f F.0, record { own = λ b low occ. go b low occ (Bool_cases (member b (F.0.lists o))); used = F.1.used })
      where
        go : (b : ℕ) → b < p.blocks → get_or f.states b 0 ≢ 0 → (member b (F.0.lists o) ≡ true) ⊎ (member b (F.0.lists o) ≡ false)
            → owner_of (append p l o f.words) b ≡ owner_of w b
        go b low occ (inl y) =
            let x = appended_in f.words f.states F.0 P Q ne b (member_in b (F.0.lists o) y) in
            x.1 ∙ sym x.0 ∙ F.1.own b low occ
        go b low occ (inr n) =
            appended_out f.words f.states F.0 P Q ne b low occ (λ y. true_not_false (sym (in_member b (F.0.lists o) y) ∙ n)) ∙ F.1.own b low occ

    start : GoodTables p ms w st → Follows (freed w st)
    start H = (H, record { own = λ b low occ. refl; used = λ b occ. occ })

    -- ---- what a release leaves: of the blocks still in use, those of abandoned are those that were

    pub record Apart (f : Freed) : Type 0 where
      pub good : GoodBy p B ms f
      pub used : (b : ℕ) → get_or f.states b 0 ≢ 0 → get_or st b 0 ≢ 0
      pub same : (b : ℕ) → b < p.blocks → get_or f.states b 0 ≢ 0 → eqb (owner_of f.words b) 8 ≡ eqb (owner_of w b) 8

    pub holder_apart : (h : ℕ) → 1 ≤ h → h ≤ 8 → GoodTables p ms w st → Apart (release_holder p h w st)
    unfolding release_holder local_sets
    holder_apart h lo hi H =
        record {
          good = abandon_good p B ms 9 (h - 1) (omega arith) (omega arith) (omega arith) (omega arith) _ _ F.0;
          used = F.1.used;
          same = λ b low occ. go X.words (abandon_blocks p 27 (3 * (h - 1)) X.words) b (abandoned_owner 9 (h - 1) (omega arith) (omega arith) (omega arith) (omega arith) _ _ F.0 b low occ) (F.1.own b low occ);
        }
      where
        X : Freed
        X = each_below bins (release_bin p (3 * (h - 1))) (freed w st)

        F : Follows X
        F = bins_keep p (h - 1) (omega arith) Follows (blocks_follow (h - 1)) (append_follow (h - 1)) (freed w st) (start H)

        go : (u v : Words) (b : ℕ) → ((owner_of u b ≢ h - 1) × (owner_of v b ≡ owner_of u b)) ⊎ ((owner_of u b ≡ h - 1) × (owner_of v b ≡ 9)) → owner_of u b ≡ owner_of w b
            → eqb (owner_of v b) 8 ≡ eqb (owner_of w b) 8
        go u v b (inl q) e = ap (λ (x : ℕ). eqb x 8) (q.1 ∙ e)
        go u v b (inr q) e =
            ne_eqb (owner_of v b) 8 (λ z. omega (arith, sym q.1 ∙ z)) ∙ sym (ne_eqb (owner_of w b) 8 (λ z. omega (arith, sym q.0 ∙ e ∙ z)))

    pub shared_apart : GoodTables p ms w st → Apart (sweep_later p w st)
    unfolding sweep_later
    shared_apart H =
        let F : Follows (each_below bins (sweep_later_bin p) (freed w st)) =
        later_keeps p Follows (blocks_follow 8) (append_follow 8) (freed w st) (start H) in
        record { good = F.0; used = F.1.used; same = λ b low occ. ap (λ (x : ℕ). eqb x 8) (F.1.own b low occ) }

  -- ---- what goes over: of abandoned after, and not before

  module _ (w : Words) (st : List ℕ) where
    abbrev pub Over : Words → List ℕ → ℕ → ℕ
    Over u s b = flag (not (of 8 w st b) && of 8 u s b)

    module _ (f : Freed) (A : Apart w st f) where
      unused : (u : Words) (b : ℕ) → get_or f.states b 0 ≡ 0 → Over u f.states b ≡ 0
      unused u b z = flag_none (and_second (not (of 8 w st b)) (and_first (eqb (owner_of u b) 8) (ap not (eq-eqb (get_or f.states b 0) 0 z))))

      -- where the owners are those that the release left, no block goes over
      none_over : (u : Words) → ((b : ℕ) → owner_of u b ≡ owner_of f.words b) → sum_below p.blocks (Over u f.states) ≡ 0
      none_over u e = sum_same p.blocks _ (λ b. 0) (λ b low. go b low (ℕ_discrete (get_or f.states b 0) 0)) ∙ sum_zero p.blocks
        where
          never : (x : Bool) → flag (not x && x) ≡ 0
          never true = flag_none refl
          never false = flag_none refl

          go : (b : ℕ) → b < p.blocks → Dec (get_or f.states b 0 ≡ 0) → Over u f.states b ≡ 0
          go b low (yes z) = unused u b z
          go b low (no occ) =
              rw (ne_eqb (get_or f.states b 0) 0 occ, ne_eqb (get_or st b 0) 0 (A.used b occ), e b, A.same b low occ) (never (eqb (owner_of w b) 8))

      -- where in-gc was merged, its blocks
      merged_over : (u v : Words) → GoodTables p ms u f.states → ((b : ℕ) → owner_of u b ≡ owner_of f.words b)
          → ((b : ℕ) → owner_of v b ≡ owner_of (abandon_blocks p 24 27 u) b)
          → abandoned_blocks p 24 27 u ≡ sum_below p.blocks (Over v f.states)
      unfolding count
      merged_over u v H e q =
          abandoned_count 8 9 (omega arith) (omega arith) (omega arith) (omega arith) f.states u H
          ∙ sum_same p.blocks _ _ (λ b low. go b low (ℕ_discrete (get_or f.states b 0) 0))
        where
          used : (b : ℕ) → b < p.blocks → (occ : get_or f.states b 0 ≢ 0)
              → ((owner_of u b ≢ 9) × (owner_of (abandon_blocks p 24 27 u) b ≡ owner_of u b)) ⊎ ((owner_of u b ≡ 9) × (owner_of (abandon_blocks p 24 27 u) b ≡ 8))
              → flag (of 9 u f.states b) ≡ Over v f.states b
          used b low occ (inl x) =
              flag_none (and_second (not (eqb (get_or f.states b 0) 0)) (ne_eqb (owner_of u b) 9 x.0)) ∙ sym over
            where
              never : (y : Bool) → flag (not y && y) ≡ 0
              never true = flag_none refl
              never false = flag_none refl

              over : Over v f.states b ≡ 0
              over =
                  rw (ne_eqb (get_or f.states b 0) 0 occ, ne_eqb (get_or st b 0) 0 (A.used b occ), q b, x.1, e b, A.same b low occ)
                  (never (eqb (owner_of w b) 8))
          used b low occ (inr x) =
              let out : eqb (owner_of w b) 8 ≡ false =
              sym (A.same b low occ) ∙ ne_eqb (owner_of f.words b) 8 (λ z. omega (arith, sym x.0 ∙ e b ∙ z)) in
              rw (ne_eqb (get_or f.states b 0) 0 occ, ne_eqb (get_or st b 0) 0 (A.used b occ), q b, x.1, x.0, out)

          go : (b : ℕ) → b < p.blocks → Dec (get_or f.states b 0 ≡ 0) → flag (of 9 u f.states b) ≡ Over v f.states b
          go b low (yes z) = flag_none (and_first (eqb (owner_of u b) 9) (ap not (eq-eqb (get_or f.states b 0) 0 z))) ∙ sym (unused v b z)
          go b low (no occ) = used b low occ (abandoned_owner 8 9 (omega arith) (omega arith) (omega arith) (omega arith) f.states u H b low occ)

      -- the end of a release
      pub part_over : (part : ℕ) → GoodTables p ms (set_released part 1 (set_phase 2 f.words)) f.states
          → merged p part f.words ≡ sum_below p.blocks (Over (part_released p part f.words) f.states)
      unfolding merged part_released
      part_over part H = go (all_released u) refl
        where
          u : Words
          u = set_released part 1 (set_phase 2 f.words)

          v : Words
          v = set_phase 0 (with_released (replicate 9 0) (abandon_blocks p 24 27 u))

          go : (c : Bool) → all_released u ≡ c → (if c then abandoned_blocks p 24 27 u else 0) ≡ sum_below p.blocks (Over (if c then v else u) f.states)
          go true e = merged_over u v H (releasing_owner part f.words) (running_owner _ (abandon_blocks p 24 27 u))
          go false e = sym (none_over u (releasing_owner part f.words))

    -- destroy: the holder's blocks
    pub destroyed_over : GoodTables p ms w st → (j : ℕ) → j < 8 → (v : Words) → ((b : ℕ) → owner_of v b ≡ owner_of (abandon_blocks p 24 (3 * j) w) b)
        → count p.blocks j w st ≡ sum_below p.blocks (Over v st)
    unfolding count
    destroyed_over H j lj v q = sum_same p.blocks _ _ (λ b low. go b low (ℕ_discrete (get_or st b 0) 0))
      where
        used : (b : ℕ) → (occ : get_or st b 0 ≢ 0)
            → ((owner_of w b ≢ j) × (owner_of (abandon_blocks p 24 (3 * j) w) b ≡ owner_of w b)) ⊎ ((owner_of w b ≡ j) × (owner_of (abandon_blocks p 24 (3 * j) w) b ≡ 8))
            → flag (of j w st b) ≡ Over v st b
        used b occ (inl x) =
            flag_none (and_second (not (eqb (get_or st b 0) 0)) (ne_eqb (owner_of w b) j x.0)) ∙ sym over
          where
            never : (y : Bool) → flag (not y && y) ≡ 0
            never true = flag_none refl
            never false = flag_none refl

            over : Over v st b ≡ 0
            over = rw (ne_eqb (get_or st b 0) 0 occ, q b, x.1) (never (eqb (owner_of w b) 8))
        used b occ (inr x) =
            let out : eqb j 8 ≡ false = ne_eqb j 8 (λ z. omega (arith, z)) in
            let own : eqb j j ≡ true = eq-eqb j j refl in
            rw (ne_eqb (get_or st b 0) 0 occ, q b, x.1, x.0, out, own)

        go : (b : ℕ) → b < p.blocks → Dec (get_or st b 0 ≡ 0) → flag (of j w st b) ≡ Over v st b
        go b low (yes z) =
            flag_none (and_first (eqb (owner_of w b) j) (ap not (eq-eqb (get_or st b 0) 0 z)))
            ∙ sym (flag_none (and_second (not (of 8 w st b)) (and_first (eqb (owner_of v b) 8) (ap not (eq-eqb (get_or st b 0) 0 z)))))
        go b low (no occ) = used b occ (abandoned_owner 8 j (omega arith) (omega arith) (omega arith) (omega arith) st w H b low occ)

-- as the statements say it
pub went_over_lem : (p : Params) (l m : Lent) (u : Words) → view m.words ≡ u
    → went_over p l m ≡ sum_below p.blocks (λ b. flag (not (of 8 (view l.words) l.states b) && of 8 u m.states b))
unfolding went_over
went_over_lem p l m u e =
    sum_same p.blocks _ _
    (λ b low. λ i. flag (not (is_of_lem 8 l b i) && (is_of_lem 8 m b ∙ ap (λ (w : Words). of 8 w m.states b) e) i))

pub blocks_of_lem : (p : Params) (l : Lent) (h : ℕ) → blocks_of p l h ≡ count p.blocks (h - 1) (view l.words) l.states
unfolding blocks_of count local_sets
blocks_of_lem p l h = sum_same p.blocks _ _ (λ b low. ap flag (is_of_lem (h - 1) l b))
