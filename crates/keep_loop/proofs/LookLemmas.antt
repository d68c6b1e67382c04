-- One look more at a body, over a store that an earlier save may have shut.
use Rattle.std.proofs.Common.{◌≡◌, ℕ, ◌+◌, ◌<◌, ◌≤◌, List, [], ◌∷◌, ◌++◌, true, false, refl, sym, ap, ◌∙◌, subst, append-nil, inl, inr, arith}
use Rattle.std.specs.Prelude.{Bool, ◌⊎◌, Option, Some, None}
use Rattle.std.proofs.lemmas.Slice.Eq.{bytes_eq-Decides}
use Rattle.spec_store.specs.Disk.{LeavesOnly}
use Rattle.spec_store.specs.Slots.{Standing, standing_of}
use Rattle.spec_store.specs.Saves.{is_over_limit, standing_after}
use Rattle.spec_store.specs.Runs.{standing_after_all, IsOneOf}
use Rattle.persist_store.proofs.Moments.{started, weaker, joins}
use Rattle.persist_store.specs.Store.{StoreState, body_of, IsReady}
use Rattle.keep_loop.specs.declared.save_counts.SaveCounts.{SaveCounts}
use Rattle.keep_loop.specs.declared.save_end.SaveEnd.{SaveEnd}
use Rattle.keep_loop.specs.declared.save_end.SaveEnd.TheVariants as save
use Rattle.keep_loop.specs.Bodies.{is_standing, saves_in, is_any_over}
use Rattle.keep_loop.specs.Keeping.{FileStandsFor}
use Rattle.keep_loop.specs.KeepingOn.{Begun, MayStand, StoodOnce, AreSomeOf, bodies_begun, all_done, IsWhole}
use Rattle.keep_loop.specs.KeepingOn.{is_kept, FileHolds, SavedEach, body_standing}
use Rattle.keep_loop.specs.Looking.{none_counted, counted, Reopens, IsUnopened, AfterOpenLook, AfterLook, WholeSoFar, FileSoFar, LookedSoFar}
use Rattle.keep_loop.specs.Saving.{LeavesEach, StaysTold, IsBegun}
use Rattle.keep_loop.proofs.SaveLemmas.{last_of, body_in, body_after, saves-append, saves-same, saves-other, over_then, standing_then, told_then}
use Rattle.keep_loop.proofs.BegunLemmas.{may-append, once_first, once_last, may_once, one_once, one_may, done_may, none_may, none_once}
use Rattle.keep_loop.proofs.BegunLemmas.{some_none, some_first, some_more, some_last, bodies_more, all_more, done_more, failed_more, over_first}

-- the body that stands behind saves is the last of them
last_stands : (standing : Option Standing) (stood : Option (List ℕ)) (now : StoreState) (saves : List (List ℕ)) → stood ≡ body_in standing
    → now.standing ≡ standing_after_all standing saves → body_of now ≡ last_of stood saves
last_stands standing stood now saves is stands =
    ap body_in stands ∙ (body_after saves standing ∙ ap (λ o. last_of o saves) (sym is))

-- the saves of a body more, which stands already, and which does not
same_saves : (standing : Option Standing) (stood : Option (List ℕ)) (now : StoreState) (looked : List (List ℕ)) (body : List ℕ) → stood ≡ body_in standing
    → now.standing ≡ standing_after_all standing (saves_in stood looked) → is_standing (body_of now) body ≡ true
    → saves_in stood (looked ++ body ∷ []) ≡ saves_in stood looked
same_saves standing stood now looked body is stands same =
    let saves = saves_in stood looked in
    saves-append looked (body ∷ []) stood
    ∙ (ap (λ l. saves ++ l) (saves-same (last_of stood saves) body
    (ap (λ o. is_standing o body) (sym (last_stands standing stood now saves is stands)) ∙ same)) ∙ append-nil saves)

other_saves : (standing : Option Standing) (stood : Option (List ℕ)) (now : StoreState) (looked : List (List ℕ)) (body : List ℕ) → stood ≡ body_in standing
    → now.standing ≡ standing_after_all standing (saves_in stood looked) → is_standing (body_of now) body ≡ false
    → saves_in stood (looked ++ body ∷ []) ≡ saves_in stood looked ++ body ∷ []
other_saves standing stood now looked body is stands differs =
    let saves = saves_in stood looked in
    saves-append looked (body ∷ []) stood
    ∙ ap (λ l. saves ++ l) (saves-other (last_of stood saves) body
    (ap (λ o. is_standing o body) (sym (last_stands standing stood now saves is stands)) ∙ differs))

-- nothing failed so far, and nothing failed now
whole_same : (standing : Option Standing) (stood : Option (List ℕ)) (mid now : StoreState) (looked : List (List ℕ)) (begun : List Begun) (body : List ℕ)
    → stood ≡ body_in standing → WholeSoFar standing stood looked begun mid → is_standing (body_of mid) body ≡ true → now ≡ mid
    → WholeSoFar standing stood (looked ++ body ∷ []) begun now
whole_same standing stood mid now looked begun body is whole same store =
    let P : List (List ℕ) → Type 0 = λ saves. (begun ≡ all_done saves) × (is_any_over standing saves ≡ false)
    × (now.standing ≡ standing_after_all standing saves) in
    let all = subst P (sym (same_saves standing stood mid looked body is whole.standing_is same))
    (whole.are, whole.within, ap (λ (s : StoreState). s.standing) store ∙ whole.standing_is) in
    record { are = all.0; within = all.1; standing_is = all.2; open_ = ap (λ (s : StoreState). s.shut) store ∙ whole.open_ }

whole_saved : (standing : Option Standing) (stood : Option (List ℕ)) (mid now : StoreState) (looked : List (List ℕ)) (begun : List Begun) (body : List ℕ)
    → stood ≡ body_in standing → WholeSoFar standing stood looked begun mid → is_standing (body_of mid) body ≡ false
    → is_over_limit mid.standing body ≡ false → now ≡ record { standing = Some (standing_after mid.standing body); shut = false }
    → WholeSoFar standing stood (looked ++ body ∷ []) (begun ++ record { body = body; done = true } ∷ []) now
whole_saved standing stood mid now looked begun body is whole differs within store =
    let saves = saves_in stood looked in
    let one : Begun = record { body = body; done = true } in
    let P : List (List ℕ) → Type 0 = λ all. (begun ++ one ∷ [] ≡ all_done all) × (is_any_over standing all ≡ false)
    × (now.standing ≡ standing_after_all standing all) in
    let all = subst P (sym (other_saves standing stood mid looked body is whole.standing_is differs)) (
      ap (λ l. l ++ one ∷ []) whole.are ∙ sym (all_more saves body),
      over_then saves body standing mid.standing false whole.within whole.standing_is within,
      ap (λ (s : StoreState). s.standing) store ∙ standing_then saves body standing mid.standing whole.standing_is,
    ) in
    record { are = all.0; within = all.1; standing_is = all.2; open_ = ap (λ (s : StoreState). s.shut) store }

never_next : (n : ℕ) → n + 1 ≡ 0 → ⊥
never_next n is = absurd (omega (arith, is))

-- a body that stands
stands_some : (stood : Option (List ℕ)) (body : List ℕ) → is_standing stood body ≡ true → stood ≡ Some body
stands_some None body same = absurd (let never : false ≡ true = same in cc)
stands_some (Some text) body same = ap Some ((bytes_eq-Decides text body).0 same)

module _ {D : Type 0} (contents : D → Option (List ℕ)) (may_leave : D → List ℕ → Type 0) (moment : D → ℕ) (left_since : D → ℕ → List ℕ → Type 0) where
  -- where a read gave something, it still does
  pub still_told : (old new : D) → (contents new ≡ None → contents old ≡ None) → StaysTold contents old new
  still_told old new still = λ file told. go file told (contents new) refl
    where
      go : (file : List ℕ) → contents old ≡ Some file → (o : Option (List ℕ)) → contents new ≡ o → (now : List ℕ) × (contents new ≡ Some now)
      go file told None e = absurd (let no : Some file ≡ None = sym told ∙ still e in cc)
      go file told (Some now) e = (now, e)

  abbrev File : D → D → Option Standing → List Begun → Type 0
  File old new standing begun = FileSoFar contents may_leave moment left_since old new standing begun

  -- before the first look
  pub file_first : (disk : D) (store : StoreState) → ((d : D) (c : List ℕ) → left_since d (moment d) c → may_leave d c)
      → IsReady contents may_leave disk store → store.shut ≡ false → File disk disk store.standing []
  file_first disk store only ready open_ = record {
    told = λ file told. (file, told);
    left = λ file told.
        let here = ready file told open_ in
        started moment left_since disk (λ c. StoodOnce store.standing [] (standing_of c))
        (λ c left. none_once store.standing (standing_of c) (ap standing_of (here.0 c (only disk c left)) ∙ here.1));
    leaves = λ file told c left.
        let here = ready file told open_ in
        none_may store.standing (standing_of c) (ap standing_of (here.0 c left) ∙ here.1);
  }

  -- the store was opened again, or was open
  file_opens : (old mid new : D) (standing : Option Standing) (begun : List Begun) (store opened : StoreState)
      → ((d : D) (t : ℕ) (c : List ℕ) → t ≤ moment d → may_leave d c → left_since d t c)
      → File old mid standing begun → Reopens contents may_leave moment left_since mid new store opened → File old new standing begun
  file_opens old mid new standing begun store opened counts so_far opens = record {
    told = λ file told. let now = so_far.told file told in (now.0, opens.file_same ∙ now.1);
    left = λ file told.
        let P : List ℕ → Type 0 = λ c. StoodOnce standing begun (standing_of c) in
        joins moment left_since old mid new P (so_far.left file told)
        (weaker moment left_since mid new (may_leave mid) P (λ c left. may_once begun standing (standing_of c) (so_far.leaves file told c left)) opens.stop);
    leaves = λ file told c left. so_far.leaves file told c (opens.stop.each c (counts new (moment mid) c opens.stop.later left));
  }

  -- what an open store stands for may stand
  may_store : (old mid : D) (standing : Option Standing) (begun : List Begun) (store : StoreState)
      → ((d : D) (file : List ℕ) → contents d ≡ Some file → may_leave d file)
      → File old mid standing begun → IsReady contents may_leave mid store → store.shut ≡ false
      → (file : List ℕ) → contents old ≡ Some file → MayStand standing begun store.standing
  may_store old mid standing begun store here so_far ready open_ file told =
      let now = so_far.told file told in
      let P : Option Standing → Type 0 = λ t. MayStand standing begun t in
      subst P (ready now.0 now.1 open_).1 (so_far.leaves file told now.0 (here mid now.0 now.1))

  -- a save was begun over it
  left_begun : (old mid new : D) (standing : Option Standing) (begun : List Begun) (store : StoreState) (body : List ℕ) (done : Bool)
      → ((d : D) (file : List ℕ) → contents d ≡ Some file → may_leave d file)
      → File old mid standing begun → IsReady contents may_leave mid store → store.shut ≡ false
      → LeavesEach contents moment left_since mid new store.standing (body ∷ [])
      → (file : List ℕ) → contents old ≡ Some file
      → LeavesOnly moment left_since old new (λ c. StoodOnce standing (begun ++ record { body = body; done = done } ∷ []) (standing_of c))
  left_begun old mid new standing begun store body done here so_far ready open_ left file told =
      let now = so_far.told file told in
      let one : Begun = record { body = body; done = done } in
      let P : List ℕ → Type 0 = λ c. StoodOnce standing (begun ++ one ∷ []) (standing_of c) in
      let may = may_store old mid standing begun store here so_far ready open_ file told in
      joins moment left_since old mid new P
      (weaker moment left_since old mid (λ c. StoodOnce standing begun (standing_of c)) P
      (λ c once. once_first begun (one ∷ []) standing (standing_of c) once) (so_far.left file told))
      (weaker moment left_since mid new (λ c. IsOneOf store.standing (body ∷ []) (standing_of c)) P
      (λ c either. once_last begun (one ∷ []) standing store.standing (standing_of c) may (one_once store.standing (standing_of c) body done either))
      (left now.0 now.1))

  file_begun : (old mid new : D) (standing : Option Standing) (begun : List Begun) (store : StoreState) (body : List ℕ)
      → ((d : D) (file : List ℕ) → contents d ≡ Some file → may_leave d file)
      → ((d : D) (t : ℕ) (c : List ℕ) → t ≤ moment d → may_leave d c → left_since d t c)
      → File old mid standing begun → IsReady contents may_leave mid store → store.shut ≡ false
      → LeavesEach contents moment left_since mid new store.standing (body ∷ []) → StaysTold contents mid new
      → File old new standing (begun ++ record { body = body; done = false } ∷ [])
  file_begun old mid new standing begun store body here counts so_far ready open_ left told = record {
    told = told_then contents moment left_since old mid new so_far.told told;
    left = left_begun old mid new standing begun store body false here so_far ready open_ left;
    leaves = λ file first c leaves.
        let now = so_far.told file first in
        let one : Begun = record { body = body; done = false } in
        let behind = left now.0 now.1 in
        may-append begun (one ∷ []) standing store.standing (standing_of c)
        (may_store old mid standing begun store here so_far ready open_ file first)
        (one_may store.standing (standing_of c) body (behind.each c (counts new (moment mid) c behind.later leaves)));
  }

  -- and done
  file_done : (old mid new : D) (standing : Option Standing) (begun : List Begun) (store now : StoreState) (body : List ℕ)
      → ((d : D) (file : List ℕ) → contents d ≡ Some file → may_leave d file)
      → File old mid standing begun → IsReady contents may_leave mid store → store.shut ≡ false
      → LeavesEach contents moment left_since mid new store.standing (body ∷ []) → StaysTold contents mid new
      → now ≡ record { standing = Some (standing_after store.standing body); shut = false } → IsReady contents may_leave new now
      → File old new standing (begun ++ record { body = body; done = true } ∷ [])
  file_done old mid new standing begun store now body here so_far ready open_ left told is ready_now = record {
    told = told_then contents moment left_since old mid new so_far.told told;
    left = left_begun old mid new standing begun store body true here so_far ready open_ left;
    leaves = λ file first c leaves.
        let one : Begun = record { body = body; done = true } in
        let mid_file = so_far.told file first in
        let last = told mid_file.0 mid_file.1 in
        let stands = ready_now last.0 last.1 (ap (λ (s : StoreState). s.shut) is) in
        may-append begun (one ∷ []) standing store.standing (standing_of c)
        (may_store old mid standing begun store here so_far ready open_ file first)
        (done_may store.standing (standing_of c) body
        (ap standing_of (stands.0 c leaves) ∙ (stands.1 ∙ ap (λ (s : StoreState). s.standing) is)));
  }

  abbrev Looked : D → D → StoreState → StoreState → SaveCounts → List (List ℕ) → Type 0
  Looked old_disk new_disk first now counts looked = LookedSoFar contents may_leave moment left_since old_disk new_disk first now counts looked

  -- before the first look
  pub looked_first : (disk : D) (store : StoreState) → ((d : D) (c : List ℕ) → left_since d (moment d) c → may_leave d c)
      → IsReady contents may_leave disk store → store.shut ≡ false → Looked disk disk store store none_counted []
  unfolding saves_in is_any_over standing_after_all
  looked_first disk store only ready open_ = record {
    begun = [];
    some = some_none [];
    saved_is = refl;
    over = λ more. absurd (omega (arith, more));
    whole = λ whole. record { are = refl; within = refl; standing_is = refl; open_ = open_ };
    file = file_first disk store only ready open_;
  }

  -- a look at which no save was begun, and which is not over the limit
  untouched : (old mid new : D) (first before now : StoreState) (counts then_ : SaveCounts) (looked : List (List ℕ)) (body : List ℕ)
      → (so_far : Looked old mid first before counts looked) → File old new first.standing so_far.begun
      → then_.saved ≡ counts.saved → then_.over ≡ counts.over
      → (IsWhole then_ → WholeSoFar first.standing (body_of first) (looked ++ body ∷ []) so_far.begun now)
      → Looked old new first now then_ (looked ++ body ∷ [])
  untouched old mid new first before now counts then_ looked body so_far file saved over whole = record {
    begun = so_far.begun;
    some = some_first (bodies_begun so_far.begun) looked (body ∷ []) so_far.some;
    saved_is = saved ∙ so_far.saved_is;
    over = λ more. over_first looked (body ∷ []) (so_far.over (let P : ℕ → Type 0 = λ n. 0 < n in subst P over more));
    whole = whole;
    file = file;
  }

  -- one at which a save was begun, and not done
  failed_look : (old mid new : D) (first before now : StoreState) (counts then_ : SaveCounts) (looked : List (List ℕ)) (body : List ℕ)
      → (so_far : Looked old mid first before counts looked) → File old new first.standing (so_far.begun ++ record { body = body; done = false } ∷ [])
      → then_.saved ≡ counts.saved → then_.over ≡ counts.over → (IsWhole then_ → ⊥)
      → Looked old new first now then_ (looked ++ body ∷ [])
  failed_look old mid new first before now counts then_ looked body so_far file saved over never =
      let one : Begun = record { body = body; done = false } in
      let P : List (List ℕ) → Type 0 = λ bodies. AreSomeOf bodies (looked ++ body ∷ []) in
      record {
        begun = so_far.begun ++ one ∷ [];
        some = subst P (sym (bodies_more so_far.begun one)) (some_more (bodies_begun so_far.begun) looked body so_far.some);
        saved_is = saved ∙ (so_far.saved_is ∙ sym (failed_more so_far.begun body));
        over = λ more. over_first looked (body ∷ []) (so_far.over (let Q : ℕ → Type 0 = λ n. 0 < n in subst Q over more));
        whole = λ whole. absurd (never whole);
        file = file;
      }

  saved_look : (old mid new : D) (first before mid_store now : StoreState) (counts : SaveCounts) (looked : List (List ℕ)) (body : List ℕ)
      → (so_far : Looked old mid first before counts looked) → File old new first.standing (so_far.begun ++ record { body = body; done = true } ∷ [])
      → (IsWhole counts → WholeSoFar first.standing (body_of first) looked so_far.begun mid_store)
      → is_standing (body_of mid_store) body ≡ false → is_over_limit mid_store.standing body ≡ false
      → now ≡ record { standing = Some (standing_after mid_store.standing body); shut = false }
      → Looked old new first now (counted save.Saved counts) (looked ++ body ∷ [])
  saved_look old mid new first before mid_store now counts looked body so_far file whole differs within store =
      let one : Begun = record { body = body; done = true } in
      let P : List (List ℕ) → Type 0 = λ bodies. AreSomeOf bodies (looked ++ body ∷ []) in
      record {
        begun = so_far.begun ++ one ∷ [];
        some = subst P (sym (bodies_more so_far.begun one)) (some_more (bodies_begun so_far.begun) looked body so_far.some);
        saved_is = ap (λ n. n + 1) so_far.saved_is ∙ sym (done_more so_far.begun body);
        over = λ more. over_first looked (body ∷ []) (so_far.over more);
        whole = λ is. whole_saved first.standing (body_of first) mid_store now looked so_far.begun body refl
            (whole (record { failed = is.failed; wanted = is.wanted; over = is.over })) differs within store;
        file = file;
      }

  over_look : (old mid new : D) (first before now : StoreState) (counts : SaveCounts) (looked : List (List ℕ)) (body : List ℕ) (standing : Option Standing)
      → (so_far : Looked old mid first before counts looked) → File old new first.standing so_far.begun → is_over_limit standing body ≡ true
      → Looked old new first now (counted save.Limit counts) (looked ++ body ∷ [])
  over_look old mid new first before now counts looked body standing so_far file over = record {
    begun = so_far.begun;
    some = some_first (bodies_begun so_far.begun) looked (body ∷ []) so_far.some;
    saved_is = so_far.saved_is;
    over = λ more. record { standing = standing; body = body; is_in = some_last looked body; over = over };
    whole = λ whole. absurd (never_next counts.over whole.over);
    file = file;
  }

  -- a look over an open store
  opened_more : (by : SaveEnd) (old mid new : D) (first before mid_store now : StoreState) (counts : SaveCounts) (looked : List (List ℕ)) (body : List ℕ)
      → ((d : D) (file : List ℕ) → contents d ≡ Some file → may_leave d file)
      → ((d : D) (t : ℕ) (c : List ℕ) → t ≤ moment d → may_leave d c → left_since d t c)
      → (so_far : Looked old mid first before counts looked)
      → (IsWhole counts → WholeSoFar first.standing (body_of first) looked so_far.begun mid_store)
      → IsReady contents may_leave mid mid_store
      → AfterOpenLook by body contents may_leave moment left_since mid new mid_store now
      → Looked old new first now (counted by counts) (looked ++ body ∷ [])
  opened_more save.Same old mid new first before mid_store now counts looked body here laws so_far whole ready look =
      let s = look.saves in
      let P : List ℕ → Type 0 = λ b. is_standing (body_of mid_store) b ≡ true in
      let F : D → Type 0 = λ d. File old d first.standing so_far.begun in
      untouched old mid new first before now counts counts looked body so_far (subst F (sym s.disk) so_far.file) refl refl
      (λ is. whole_same first.standing (body_of first) mid_store now looked so_far.begun body refl (whole is) (subst P s.is s.stands) s.store)
  opened_more save.Saved old mid new first before mid_store now counts looked body here laws so_far whole ready look =
      let s = look.saves in
      let P : List ℕ → Type 0 = λ b. Looked old new first now (counted save.Saved counts) (looked ++ b ∷ []) in
      subst P s.is (saved_look old mid new first before mid_store now counts looked s.body so_far
      (file_done old mid new first.standing so_far.begun mid_store now s.body here so_far.file ready look.open_ s.left s.told s.store look.ready)
      whole s.differs s.within s.store)
  opened_more save.Failed old mid new first before mid_store now counts looked body here laws so_far whole ready look =
      let b = look.saves.0 in
      let P : List ℕ → Type 0 = λ t. Looked old new first now (counted save.Failed counts) (looked ++ t ∷ []) in
      subst P b.is (failed_look old mid new first before now counts (counted save.Failed counts) looked b.body so_far
      (file_begun old mid new first.standing so_far.begun mid_store b.body here laws so_far.file ready look.open_ b.left (still_told mid new look.told))
      refl refl (λ whole. never_next counts.failed whole.failed))
  opened_more save.Limit old mid new first before mid_store now counts looked body here laws so_far whole ready look =
      let d = look.saves.0 in
      let F : D → Type 0 = λ disk. File old disk first.standing so_far.begun in
      let P : List ℕ → Type 0 = λ t. Looked old new first now (counted save.Limit counts) (looked ++ t ∷ []) in
      subst P d.is (over_look old mid new first before now counts looked d.body mid_store.standing so_far
      (subst F (sym look.saves.2) so_far.file) look.saves.1)
  opened_more save.Memory old mid new first before mid_store now counts looked body here laws so_far whole ready look = go look.saves
    where
      go : (new ≡ mid) ⊎ IsBegun (λ b. b ≡ body) contents moment left_since mid new mid_store
          → Looked old new first now (counted save.Memory counts) (looked ++ body ∷ [])
      go (inl same) =
          let F : D → Type 0 = λ d. File old d first.standing so_far.begun in
          untouched old mid new first before now counts (counted save.Memory counts) looked body so_far (subst F (sym same) so_far.file) refl refl
          (λ is. absurd (never_next counts.wanted is.wanted))
      go (inr b) =
          let P : List ℕ → Type 0 = λ t. Looked old new first now (counted save.Memory counts) (looked ++ t ∷ []) in
          subst P b.is (failed_look old mid new first before now counts (counted save.Memory counts) looked b.body so_far
          (file_begun old mid new first.standing so_far.begun mid_store b.body here laws so_far.file ready look.open_ b.left (still_told mid new look.told))
          refl refl (λ is. never_next counts.wanted is.wanted))

  -- a look at which the store could not be opened
  unopened_more : (by : SaveEnd) (old mid new : D) (first before now : StoreState) (counts : SaveCounts) (looked : List (List ℕ)) (body : List ℕ)
      → IsUnopened by → (so_far : Looked old mid first before counts looked) → File old new first.standing so_far.begun
      → Looked old new first now (counted by counts) (looked ++ body ∷ [])
  unopened_more save.Same old mid new first before now counts looked body never so_far file = absurd never
  unopened_more save.Saved old mid new first before now counts looked body never so_far file = absurd never
  unopened_more save.Failed old mid new first before now counts looked body unopened so_far file =
      untouched old mid new first before now counts (counted save.Failed counts) looked body so_far file refl refl
      (λ is. absurd (never_next counts.failed is.failed))
  unopened_more save.Limit old mid new first before now counts looked body never so_far file = absurd never
  unopened_more save.Memory old mid new first before now counts looked body unopened so_far file =
      untouched old mid new first before now counts (counted save.Memory counts) looked body so_far file refl refl
      (λ is. absurd (never_next counts.wanted is.wanted))

  -- one look more
  pub looked_more : (by : SaveEnd) (old mid new : D) (first before now : StoreState) (counts : SaveCounts) (looked : List (List ℕ)) (body : List ℕ)
      → ((d : D) (file : List ℕ) → contents d ≡ Some file → may_leave d file)
      → ((d : D) (t : ℕ) (c : List ℕ) → t ≤ moment d → may_leave d c → left_since d t c)
      → Looked old mid first before counts looked → AfterLook by body contents may_leave moment left_since mid new before now
      → Looked old new first now (counted by counts) (looked ++ body ∷ [])
  looked_more by old mid new first before now counts looked body here laws so_far look = go look.looks
    where
      opened_file : File old look.mid_disk first.standing so_far.begun
      opened_file = file_opens old mid look.mid_disk first.standing so_far.begun before look.mid laws so_far.file look.opens

      at_whole : IsWhole counts → WholeSoFar first.standing (body_of first) looked so_far.begun look.mid
      at_whole is =
          let whole = so_far.whole is in
          let P : StoreState → Type 0 = λ s. WholeSoFar first.standing (body_of first) looked so_far.begun s in
          subst P (sym (look.opens.same whole.open_).0) whole

      at_mid : Looked old look.mid_disk first before counts looked
      at_mid = record {
        begun = so_far.begun;
        some = so_far.some;
        saved_is = so_far.saved_is;
        over = so_far.over;
        whole = so_far.whole;
        file = opened_file;
      }

      go : (IsUnopened by × (new ≡ look.mid_disk)) ⊎ AfterOpenLook by body contents may_leave moment left_since look.mid_disk new look.mid now
          → Looked old new first now (counted by counts) (looked ++ body ∷ [])
      go (inl (unopened, same)) =
          let F : D → Type 0 = λ d. File old d first.standing so_far.begun in
          unopened_more by old mid new first before now counts looked body unopened so_far (subst F (sym same) opened_file)
      go (inr open_look) =
          opened_more by old look.mid_disk new first before look.mid now counts looked body here laws at_mid at_whole look.opens.ready open_look

  -- the file stands for what the store stands for
  file_now : (old disk : D) (store : StoreState) → StaysTold contents old disk → IsReady contents may_leave disk store → store.shut ≡ false
      → (file : List ℕ) → contents old ≡ Some file → FileStandsFor contents may_leave disk store.standing
  file_now old disk store told ready open_ file first =
      let now = told file first in
      let is_so = ready now.0 now.1 open_ in
      record { now = now.0; here = record { told = now.1; only = is_so.0 }; standing_is = is_so.1 }

  -- where nothing failed, all is saved
  pub saved_each : (old disk : D) (first now : StoreState) (counts : SaveCounts) (looked : List (List ℕ))
      → (so_far : Looked old disk first now counts looked) → IsReady contents may_leave disk now → IsWhole counts
      → SavedEach contents may_leave old disk first.standing (body_standing first.standing) looked so_far.begun
  saved_each old disk first now counts looked so_far ready is =
      let whole = so_far.whole is in
      let P : Option Standing → Type 0 = λ t. FileStandsFor contents may_leave disk t in
      record {
        are = whole.are;
        within = whole.within;
        stands = λ file told. subst P whole.standing_is (file_now old disk now so_far.file.told ready whole.open_ file told);
      }

  -- a body that was looked at last and kept is that of the file
  holds_body : (old disk : D) (store : StoreState) (body : List ℕ) → StaysTold contents old disk → IsReady contents may_leave disk store
      → store.shut ≡ false → body_of store ≡ Some body → (file : List ℕ) → contents old ≡ Some file → FileHolds contents may_leave disk body
  holds_body old disk store body told ready open_ is file first =
      let stands = file_now old disk store told ready open_ file first in
      record { now = stands.now; here = stands.here; stands = ap body_in stands.standing_is ∙ is }

  pub holds_last : (by : SaveEnd) (old mid disk : D) (before now : StoreState) (body : List ℕ) → StaysTold contents old disk
      → AfterLook by body contents may_leave moment left_since mid disk before now → is_kept (Some by) ≡ true
      → (file : List ℕ) → contents old ≡ Some file → FileHolds contents may_leave disk body
  holds_last save.Same old mid disk before now body told look kept = go look.looks
    where
      go : (IsUnopened save.Same × (disk ≡ look.mid_disk))
          ⊎ AfterOpenLook save.Same body contents may_leave moment left_since look.mid_disk disk look.mid now
          → (file : List ℕ) → contents old ≡ Some file → FileHolds contents may_leave disk body
      go (inl (never, same)) = absurd never
      go (inr open_look) =
          let s = open_look.saves in
          holds_body old disk now body told open_look.ready (ap (λ (t : StoreState). t.shut) s.store ∙ open_look.open_)
          (ap body_of s.store ∙ (stands_some (body_of look.mid) s.body s.stands ∙ ap Some s.is))
  holds_last save.Saved old mid disk before now body told look kept = go look.looks
    where
      go : (IsUnopened save.Saved × (disk ≡ look.mid_disk))
          ⊎ AfterOpenLook save.Saved body contents may_leave moment left_since look.mid_disk disk look.mid now
          → (file : List ℕ) → contents old ≡ Some file → FileHolds contents may_leave disk body
      go (inl (never, same)) = absurd never
      go (inr open_look) =
          let s = open_look.saves in
          holds_body old disk now body told open_look.ready (ap (λ (t : StoreState). t.shut) s.store)
          (ap body_of s.store ∙ ap Some s.is)
  holds_last save.Failed old mid disk before now body told look kept = absurd (let never : false ≡ true = kept in cc)
  holds_last save.Limit old mid disk before now body told look kept = absurd (let never : false ≡ true = kept in cc)
  holds_last save.Memory old mid disk before now body told look kept = absurd (let never : false ≡ true = kept in cc)
