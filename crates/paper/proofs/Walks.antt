-- The theorem on lists in document order, once for every walk: over what lies below a place and what is broken there.
--     found_exactly    the list that is found from a place holds exactly what is unmet by the path definition, each once, in document order
--     found_at         it is what is broken at the place, and then what is found at each place below
--     found_by         so what holds of it can be shown place by place
-- A walk has only to show that every place below is smaller, and that the rules broken at a place are named in their order. Assumes nothing.
use mathlib.Core.Path.{◌≡◌, refl, sym, ap, ap₂, ◌∙◌, subst}
use mathlib.Core.Logic.{inl, inr, ⊎_elim}
use mathlib.Core.Bool.{Bool, true, false}
use mathlib.Core.List.{List, [], ◌∷◌, ◌++◌, map, map-append, map-map}
use mathlib.Core.List.Memᴰ
use mathlib.Core.List.{Memᴰ}
use Prim.Native.Nat.{ℕ, zero, suc, ◌+◌, ◌<◌, ◌≤◌}
use native.Mathlib.Omega.{arith}
use native.Mathlib.Nat.{add-zero}
use lib.ListN.{get_or}
use Rattle.paper.specs.declared.Finding.{Finding}
use Rattle.paper.specs.Record.{pick}
use Rattle.paper.specs.Places.{Place, nowhere, place, Entry, Broken, Unmet, Before, Earlier, Located, Precedes, Ascending, Exactly}
use Rattle.paper.specs.Places.{gather, findings, spot_size, found_within, found}
use Rattle.paper.proofs.Ascending.{asc_append, asc_map}
use Rattle.paper.proofs.Entries.{entries, entries_get, entries_put, gather_get, gather_put, ByRule, gather_asc, gather_findings}

-- ---- either of two, and every member of a list

pub picked : {A : Type 0} (C : A → Type 0) (b : Bool) (x y : A) → C x → C y → C (pick b x y)
picked C true x y p q = p
picked C false x y p q = q

abbrev pub All : {A : Type 0} → (A → Type 0) → List A → Type 0
All C [] = Unit {0}
All C (a ∷ l) = C a × All C l

pub all_map : {A : Type 0} {C D : A → Type 0} → ((a : A) → C a → D a) → (l : List A) → All C l → All D l
all_map f [] p = tt
all_map f (a ∷ l) p = (f a p.0, all_map f l p.1)

pub all_unless : {A : Type 0} (C : A → Type 0) (b : Bool) (l : List A) → All C l → All C (pick b [] l)
all_unless C b l a = picked (All C) b [] l tt a

pub all_both : {A : Type 0} (C D E : A → Type 0) → ((a : A) → C a → D a → E a) → (l : List A) → All C l → All D l → All E l
all_both C D E f [] p q = tt
all_both C D E f (a ∷ l) p q = (f a p.0 q.0, all_both C D E f l p.1 q.1)

pub all_append : {A : Type 0} (C : A → Type 0) (l m : List A) → All C l → All C m → All C (l ++ m)
all_append C [] m p q = q
all_append C (a ∷ l) m p q = (p.0, all_append C l m p.1 q)

pub all_of : {A : Type 0} (C : A → Type 0) (l : List A) → ((a : A) → Memᴰ a l → C a) → All C l
all_of C [] h = tt
all_of C (a ∷ l) h = (h a (Memᴰ.head refl), all_of C l (λ b m. h b (Memᴰ.tail m)))

pub all_at : {A : Type 0} (C : A → Type 0) (l : List A) (a : A) → All C l → Memᴰ a l → C a
all_at C [] a h m = absurd (Memᴰ.not-nil m)
all_at C (b ∷ l) a h m = ⊎_elim (λ (e : a ≡ b). subst C (sym e) h.0) (λ k. all_at C l a h.1 k) (Memᴰ.cases_cons m)

pub nil_cons : {A : Type 0} (a : A) (l : List A) → [] ≡ a ∷ l → ⊥
nil_cons a l e = let z : ◌≡◌ {A = ℕ} 0 1 = cc in omega arith

-- ---- located lists

abbrev pub extent : Place → ℕ
extent p = spot_size p.spot

abbrev pub here : Entry → Located
here e = record { path = []; item = e }

abbrev push : ℕ → Located → Located
push i l = record { path = i ∷ l.path; item = l.item }

abbrev loc : List ℕ → Entry → Located
loc p e = record { path = p; item = e }

abbrev forest : (Place → List Located) → ℕ → List Place → List Located
forest f i [] = []
forest f i (q ∷ qs) = map (push i) (f q) ++ forest f (suc i) qs

forest_same : (f g : Place → List Located) (i : ℕ) (qs : List Place) → All (λ q. f q ≡ g q) qs → forest f i qs ≡ forest g i qs
forest_same f g i [] a = refl
forest_same f g i (q ∷ qs) a = ap₂ {C = List Located} ◌++◌ (ap (map (push i)) a.0) (forest_same f g (suc i) qs a.1)

push_up : (k : ℕ) (a b : Located) → Precedes a b → Precedes (push k a) (push k b)
push_up k a b h = ⊎_elim (λ p. inl (inr (refl, p))) (λ p. inr (ap (λ (z : List ℕ). k ∷ z) p.0, p.1)) h

before_at : (k j : ℕ) (p q x y : List ℕ) → x ≡ k ∷ p → y ≡ j ∷ q → k < j → Before x y
before_at k j p q x y d e h = subst (λ (z : List ℕ). Before z y) (sym d) (subst (λ (z : List ℕ). Before (k ∷ p) z) (sym e) (inl h))

before_below : (j : ℕ) (q x y : List ℕ) → x ≡ [] → y ≡ j ∷ q → Before x y
before_below j q x y d e = subst (λ (z : List ℕ). Before z y) (sym d) (subst (λ (z : List ℕ). Before [] z) (sym e) tt)

abbrev finding_of : Located → Finding
finding_of l = l.item.finding

forest_findings : (f : Place → List Located) (g : Place → List Finding) → ((q : Place) → map finding_of (f q) ≡ g q)
    → (i : ℕ) (qs : List Place) → map finding_of (forest f i qs) ≡ gather g qs
unfolding gather
forest_findings f g h i [] = refl
forest_findings f g h i (q ∷ qs) =
    map-append finding_of (map (push i) (f q)) (forest f (suc i) qs)
    ∙ ap₂ {C = List Finding} ◌++◌ (map-map finding_of (push i) (f q) ∙ h q) (forest_findings f g h (suc i) qs)

-- ---- a walk

module _ (below : Place → List Place) (broken : Place → List Broken) where
  own : Place → List Entry
  own p = gather entries (broken p)

  find_within : ℕ → Place → List Located
  find_within zero p = []
  find_within (suc deep) p = map here (own p) ++ forest (find_within deep) 0 (below p)

  find : Place → List Located
  find p = find_within (extent p) p

  within_findings : (deep : ℕ) (p : Place) → map finding_of (find_within deep p) ≡ found_within below broken deep p
  unfolding find_within found_within own
  within_findings zero p = refl
  within_findings (suc deep) p =
      map-append finding_of (map here (own p)) (forest (find_within deep) 0 (below p))
      ∙ ap₂ {C = List Finding} ◌++◌ (map-map finding_of here (own p) ∙ gather_findings (broken p))
      (forest_findings (find_within deep) (found_within below broken deep) (within_findings deep) 0 (below p))

  module _ (pos : (p : Place) → 0 < extent p) (shrinks : (p : Place) → All (λ q. extent q < extent p) (below p)) where
    -- any bound will do that is large enough
    enough : (d e : ℕ) (p : Place) → extent p ≤ d → extent p ≤ e → find_within d p ≡ find_within e p
    unfolding find_within
    enough zero e p h k = absurd (let z = pos p in omega arith)
    enough (suc d) zero p h k = absurd (let z = pos p in omega arith)
    enough (suc d) (suc e) p h k =
        ap (λ (z : List Located). map here (own p) ++ z)
        (forest_same (find_within d) (find_within e) 0 (below p)
        (all_map (λ q (l : extent q < extent p). enough d e q (omega arith) (omega arith)) (below p) (shrinks p)))

    parts : (p : Place) → find p ≡ map here (own p) ++ forest find 0 (below p)
    unfolding find find_within
    parts p = go (extent p) refl
      where
        go : (n : ℕ) → extent p ≡ n → find_within (extent p) p ≡ map here (own p) ++ forest (λ q. find_within (extent q) q) 0 (below p)
        go zero e = absurd (let z = pos p in omega arith)
        go (suc n) e =
            ap (λ (m : ℕ). find_within m p) e
            ∙ ap (λ (z : List Located). map here (own p) ++ z)
            (forest_same (find_within n) (λ q. find_within (extent q) q) 0 (below p)
            (all_map (λ q (l : extent q < extent p). enough n (extent q) q (omega arith) (omega arith)) (below p) (shrinks p)))

    pub within : (C : Place → Type 0) → ((q : Place) → All C (below q) → C q) → (d : ℕ) (p : Place) → extent p ≤ d → C p
    within C f zero p h = absurd (let z = pos p in omega arith)
    within C f (suc d) p h = f p (all_map (λ q (l : extent q < extent p). within C f d q (omega arith)) (below p) (shrinks p))

    module _ (off : broken nowhere ≡ []) (stop : below nowhere ≡ []) (by_rule : (p : Place) → ByRule (broken p)) where
      find_off : find nowhere ≡ []
      unfolding own gather
      find_off =
          parts nowhere
          ∙ ap₂ {C = List Located} ◌++◌ (ap (λ (l : List Broken). map here (gather entries l)) off) (ap (forest find 0) stop)

      -- what is in a forest lies under one of its places
      forest_get : (qs : List Place) (k : ℕ) (b : Located) → Memᴰ b (forest find k qs)
          → (i : ℕ) × (p : List ℕ) × (b.path ≡ (k + i) ∷ p) × Memᴰ (loc p b.item) (find (get_or qs i nowhere))
      forest_get [] k b m = absurd (Memᴰ.not-nil m)
      forest_get (q ∷ qs) k b m =
          ⊎_elim
          (λ (u : Memᴰ b (map (push k) (find q))).
          let w = Memᴰ.of_map (push k) (find q) u in (
            0,
            w.0.path,
            sym (ap (λ (z : Located). z.path) w.2) ∙ ap (λ (z : ℕ). z ∷ w.0.path) (sym (add-zero k)),
            Memᴰ.cast (ap (λ (z : Entry). loc w.0.path z) (sym (ap (λ (z : Located). z.item) w.2))) w.1,
          ))
          (λ (u : Memᴰ b (forest find (suc k) qs)).
          let w = forest_get qs (suc k) b u in
          let e : suc k + w.0 ≡ k + suc w.0 = omega arith in
          (suc w.0, w.1, w.2 ∙ ap (λ (z : ℕ). z ∷ w.1) e, w.3))
          (Memᴰ.append_cases (map (push k) (find q)) m)

      -- and what lies under one of its places is in the forest
      forest_put : (qs : List Place) (k i j : ℕ) (p : List ℕ) (e : Entry) → j ≡ k + i → Memᴰ (loc p e) (find (get_or qs i nowhere))
          → Memᴰ (loc (j ∷ p) e) (forest find k qs)
      forest_put [] k i j p e d m = absurd (Memᴰ.not-nil (subst (λ (l : List Located). Memᴰ (loc p e) l) find_off m))
      forest_put (q ∷ qs) k zero j p e d m =
          let h : j ≡ k = omega arith in
          Memᴰ.append_left (forest find (suc k) qs) (Memᴰ.cast (ap (λ (z : ℕ). loc (z ∷ p) e) h) (Memᴰ.map (push k) m))
      forest_put (q ∷ qs) k (suc i) j p e d m = Memᴰ.append_right (map (push k) (find q)) (forest_put qs (suc k) i j p e (omega arith) m)

      sound : (p : List ℕ) (e : Entry) (q : Place) → Memᴰ (loc p e) (find q) → Memᴰ e (own (place below q p))
      sound [] e q m =
          ⊎_elim (λ u. let w = Memᴰ.of_map here (own q) u in Memᴰ.cast (sym (ap (λ (z : Located). z.item) w.2)) w.1)
          (λ u. let w = forest_get (below q) 0 (loc [] e) u in absurd (nil_cons (0 + w.0) w.1 w.2))
          (Memᴰ.append_cases (map here (own q)) (subst (λ (l : List Located). Memᴰ (loc [] e) l) (parts q) m))
      sound (i ∷ p) e q m =
          ⊎_elim (λ u. let w = Memᴰ.of_map here (own q) u in absurd (nil_cons i p (ap (λ (z : Located). z.path) w.2)))
          (λ u.
          let w = forest_get (below q) 0 (loc (i ∷ p) e) u in
          let h : (i ∷ p) ≡ (0 + w.0) ∷ w.1 = w.2 in
          let a : i ≡ 0 + w.0 = cc in
          let b : w.1 ≡ p = cc in
          let c : w.0 ≡ i = omega arith in
          sound p e (get_or (below q) i nowhere)
          (subst (λ (z : List ℕ). Memᴰ (loc z e) (find (get_or (below q) i nowhere))) b
          (subst (λ (z : ℕ). Memᴰ (loc w.1 e) (find (get_or (below q) z nowhere))) c w.3)))
          (Memᴰ.append_cases (map here (own q)) (subst (λ (l : List Located). Memᴰ (loc (i ∷ p) e) l) (parts q) m))

      complete : (p : List ℕ) (e : Entry) (q : Place) → Memᴰ e (own (place below q p)) → Memᴰ (loc p e) (find q)
      complete [] e q m =
          subst (λ (l : List Located). Memᴰ (loc [] e) l) (sym (parts q)) (Memᴰ.append_left (forest find 0 (below q)) (Memᴰ.map here m))
      complete (i ∷ p) e q m =
          subst (λ (l : List Located). Memᴰ (loc (i ∷ p) e) l) (sym (parts q))
          (Memᴰ.append_right (map here (own q)) (forest_put (below q) 0 i i p e (omega arith) (complete p e (get_or (below q) i nowhere) m)))

      forest_asc : (qs : List Place) (k : ℕ) → All (λ q. Ascending Precedes (find q)) qs → Ascending Precedes (forest find k qs)
      forest_asc [] k a = tt
      forest_asc (q ∷ qs) k a =
          asc_append Precedes (map (push k) (find q)) (forest find (suc k) qs) (asc_map Precedes Precedes (push k) (push_up k) (find q) a.0)
          (forest_asc qs (suc k) a.1)
          (λ x y m n.
          let u = Memᴰ.of_map (push k) (find q) m in
          let w = forest_get qs (suc k) y n in
          inl (before_at k (suc k + w.0) u.0.path w.1 x.path y.path (sym (ap (λ (z : Located). z.path) u.2)) w.2 (omega arith)))

      find_asc : (q : Place) → Ascending Precedes (find q)
      unfolding own
      find_asc q =
          within (λ p. Ascending Precedes (find p))
          (λ p a.
          subst (λ (l : List Located). Ascending Precedes l) (sym (parts p))
          (asc_append Precedes (map here (own p)) (forest find 0 (below p))
          (asc_map Earlier Precedes here (λ x y r. inr (refl, r)) (own p) (gather_asc (broken p) (by_rule p))) (forest_asc (below p) 0 a)
          (λ x y m n.
          let u = Memᴰ.of_map here (own p) m in
          let w = forest_get (below p) 0 y n in
          inl (before_below (0 + w.0) w.1 x.path y.path (sym (ap (λ (z : Located). z.path) u.2)) w.2))))
          (extent q) q (omega arith)

      own_unmet : (p : Place) (path : List ℕ) (e : Entry) → Memᴰ e (own (place below p path)) → Unmet below broken p path e
      unfolding own
      own_unmet p path e m = let w = gather_get entries (broken (place below p path)) e m in (w.0, w.1, entries_get w.0 e w.2)

      unmet_own : (p : Place) (path : List ℕ) (e : Entry) → Unmet below broken p path e → Memᴰ e (own (place below p path))
      unfolding own
      unmet_own p path e h = gather_put entries (broken (place below p path)) h.0 e h.1 (entries_put h.0 e h.2)

      pub found_exactly : (p : Place) → Exactly (Unmet below broken p) (found below broken p)
      unfolding find found
      found_exactly p =
          record {
            located = find p;
            findings = within_findings (extent p) p;
            sorted = find_asc p;
            sound = λ l m. own_unmet p l.path l.item (sound l.path l.item p m);
            complete = λ l h. complete l.path l.item p (unmet_own p l.path l.item h);
          }

    pub found_at : (p : Place) → found below broken p ≡ gather findings (broken p) ++ gather (found below broken) (below p)
    unfolding find own found
    found_at p =
        sym (within_findings (extent p) p) ∙ ap (map finding_of) (parts p)
        ∙ map-append finding_of (map here (own p)) (forest find 0 (below p))
        ∙ ap₂ {C = List Finding} ◌++◌ (map-map finding_of here (own p) ∙ gather_findings (broken p))
        (forest_findings find (found below broken) (λ q. within_findings (extent q) q) 0 (below p))

    -- where `Holds` goes down with the walk, and `C` holds of what is broken at a place and found below it if it holds of what is found from each place below
    pub found_by : (Holds : Place → Type 0) → ((p : Place) → Holds p → All Holds (below p)) → (C : Place → List Finding → Type 0)
        → ((p : Place) → Holds p → All (λ q. C q (found below broken q)) (below p) → C p (gather findings (broken p) ++ gather (found below broken) (below p)))
        → (p : Place) → Holds p → C p (found below broken p)
    found_by Holds goes_down C step p =
        within (λ q. Holds q → C q (found below broken q))
        (λ q a h.
        subst (C q) (sym (found_at q))
        (step q h
        (all_both (λ r. Holds r → C r (found below broken r)) Holds (λ r. C r (found below broken r)) (λ r f k. f k) (below q) a (goes_down q h))))
        (extent p) p (omega arith)
