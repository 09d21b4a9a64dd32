-- What every walk over accepted bytes may count on: each reference is below its node and of its sort, each name is in the table, no node is deeper than 64,
-- and the root's tree has every node exactly once. Assumes nothing.
use mathlib.Core.Path.{◌≡◌, refl, sym, ap, ◌∙◌, subst, fun_ext}
use mathlib.Core.Bool.{Bool, true, false, ◌||◌, true≢false}
use mathlib.Core.List.{List, [], ◌∷◌, ◌++◌, map, map-append, Memᴰ}
use Prim.Native.Nat.{ℕ, zero, suc, ◌+◌, ◌-◌, ◌<◌, ◌≤◌}
use native.Mathlib.Omega.{arith}
use native.Mathlib.Decide.{dec_lt}
use native.Mathlib.Nat.{mul-one}
use native.Mathlib.Numerals.{add-one}
use lib.Dec.{eqb, ltb}
use lib.ListN.{length, get_or, drop, length-append, get_or-append, length-map}
use borrow.Author.Tests.{eq-eqb, ne_eqb, lt-ltb, le-ltb}
use Rattle.paper.specs.declared.Node.{Node}
use Rattle.paper.specs.declared.Node.TheVariants.{ListEnd}
use Rattle.paper.specs.Sets.{Set, none, only, ◌∪◌}
use Rattle.paper.specs.Record.{pick, Sort, condition, fits, values, Kind, node, announced, node_no}
use Rattle.paper.specs.TurnedAway.{Contents, accepted, read, Seen, unseen, SoFar, nothing_read, Checked, fault, fine, check_all, check_depth}
use Rattle.paper.specs.Tree.{Tree, as_condition, planted, trees, tree_at, root_no, root, size}
use Rattle.paper.specs.Shape.{references, names_in}
use Rattle.paper.proofs.SetLaws.{all_get}
use Rattle.paper.proofs.Walks.{All, all_map, all_both}
use Rattle.paper.proofs.Runs.{Went, went_format, went_name, went_node, seen_node, last_of, taken, Closed, closed, accepted_keeps}
use Rattle.paper.proofs.Fields.{New, Into, says, for_sort, Passed, passed, field_references}
use Rattle.paper.proofs.Weights.{weigh, one, size_weighs, tree_weight, weight_as, of_sort, at_home, total, planted_weighs}
use Rattle.paper.proofs.Forests.{tree_step, tree_more, trees_more, sum, sum_same, spare, spare_same, spare_last, weight_at, Home, new_total}

abbrev said : List Seen → List Node
said nodes = map (λ (s : Seen). s.node) nodes

-- ---- one more node

said_long : (nodes : List Seen) → length (said nodes) ≡ length nodes
said_long nodes = length-map nodes (λ (s : Seen). s.node)

-- how often a node is referred to, in one list of references and by a row of nodes
abbrev named_in : ℕ → List (Sort × ℕ) → ℕ
named_in k [] = 0
named_in k (p ∷ ps) = pick (eqb k p.1) 1 0 + named_in k ps

pub mentions : ℕ → List Node → ℕ
mentions k [] = 0
mentions k (m ∷ ms) = named_in k (references m) + mentions k ms

-- what is named somewhere is referred to by a node
named_some : (k : ℕ) (ps : List (Sort × ℕ)) → 0 < named_in k ps → (s : Sort) × Memᴰ (s, k) ps
named_some k [] h = absurd (omega arith)
named_some k (p ∷ ps) h = go (λ z. named_some k ps z) (eqb k p.1) refl
  where
    go : (0 < named_in k ps → (s : Sort) × Memᴰ (s, k) ps) → (b : Bool) → eqb k p.1 ≡ b → (s : Sort) × Memᴰ (s, k) (p ∷ ps)
    go later true e = (p.0, Memᴰ.head (ap (λ (z : ℕ). (p.0, z)) (borrow.Author.Tests.eqb-true k p.1 e)))
    go later false e = let z = rw e at h in let r = later (omega arith) in (r.0, Memᴰ.tail r.1)

pub mentioned : (k : ℕ) (ms : List Node) → 0 < mentions k ms
    → (p : ℕ) × (p < length ms) × ((s : Sort) × Memᴰ (s, k) (references (get_or ms p ListEnd)))
unfolding mentions
mentioned k [] h = absurd (omega arith)
mentioned k (m ∷ ms) h = go (λ z. mentioned k ms z) (dec_lt 0 (named_in k (references m)))
  where
    go : (0 < mentions k ms → (p : ℕ) × (p < length ms) × ((s : Sort) × Memᴰ (s, k) (references (get_or ms p ListEnd)))) → Dec (0 < named_in k (references m))
        → (p : ℕ) × (p < length (m ∷ ms)) × ((s : Sort) × Memᴰ (s, k) (references (get_or (m ∷ ms) p ListEnd)))
    go later (yes l) = (0, omega arith, named_some k (references m) l)
    go later (no l) = let r = later (omega arith) in let z = r.1 in (suc r.0, omega arith, r.2)

mentions_more : (k : ℕ) (ms : List Node) (m : Node) → mentions k (ms ++ (m ∷ [])) ≡ mentions k ms + named_in k (references m)
unfolding mentions
mentions_more k [] m = omega arith
mentions_more k (x ∷ ms) m = let z = mentions_more k ms m in omega arith

-- new references are each named once
new_named : (k : ℕ) (ps : List (Sort × ℕ)) (u v : Set) → New u ps v → named_in k ps + pick (u k) 1 0 ≡ pick (v k) 1 0
unfolding ◌∪◌ only
new_named k [] u v e = ap (λ (s : Set). 0 + pick (s k) 1 0) e ∙ (let z : 0 + pick (v k) 1 0 ≡ pick (v k) 1 0 = omega arith in z)
new_named k (p ∷ ps) u v e =
    let h = new_named k ps (u ∪ only p.1) v e.1 in
    let j : pick (eqb k p.1) 1 0 + pick (u k) 1 0 ≡ pick ((u ∪ only p.1) k) 1 0 = go (u k) (eqb k p.1) refl refl in
    omega arith
  where
    go : (x y : Bool) → u k ≡ x → eqb k p.1 ≡ y → ◌≡◌ {A = ℕ} (pick (eqb k p.1) 1 0 + pick (u k) 1 0) (pick (u k || eqb k p.1) 1 0)
    go true true a b = absurd (true≢false (sym a ∙ ap u (borrow.Author.Tests.eqb-true k p.1 b) ∙ e.0))
    go true false a b = rw (a, b)
    go false true a b = rw (a, b)
    go false false a b = rw (a, b)

-- what is known of node i
pub record Sound (ns : List Node) (names i : ℕ) (depth : ℕ → ℕ) : Type 0 where
  pub below : All (λ p. p.1 < i) (references (get_or ns i ListEnd))
  pub sorts : All (λ p. of_sort p.0 (tree_at ns p.1) ≡ true) (references (get_or ns i ListEnd))
  pub known : All (λ x. x < names) (names_in (get_or ns i ListEnd))
  pub deeper : All (λ p. depth p.1 < depth i) (references (get_or ns i ListEnd))
  pub shallow : depth i ≤ 64

abbrev depths : List Seen → ℕ → ℕ
depths nodes k = (get_or nodes k unseen).depth

pub record Grown (so : SoFar) : Type 0 where
  pub fit : (i : ℕ) → i < length so.nodes → (s : Sort) → fits s (get_or so.nodes i unseen).kind ≡ of_sort s (tree_at (said so.nodes) i)
  pub weight : (w : ℕ → ℕ) → spare (weight_at (said so.nodes) (length so.nodes) w) (length so.nodes) so.used ≡ sum w (length so.nodes)
  pub inner : (k : ℕ) → so.used k ≡ true → suc k < length so.nodes
  pub once : (k : ℕ) → mentions k (said so.nodes) ≡ pick (so.used k) 1 0
  pub sound : (i : ℕ) → i < length so.nodes → Sound (said so.nodes) (length so.names) i (depths so.nodes)
  pub few_names : length so.names ≤ 128
  pub few_nodes : length so.nodes ≤ 512

nothing : Grown nothing_read
unfolding nothing_read none spare sum mentions
nothing =
    record {
      fit = λ i h. absurd (omega arith);
      weight = λ w. refl;
      inner = λ k e. absurd (true≢false (sym e));
      once = λ k. refl;
      sound = λ i h. absurd (omega arith);
      few_names = omega arith;
      few_nodes = omega arith;
    }

-- a set that new references make has them and what it had
new_had : (ps : List (Sort × ℕ)) (n : ℕ) (u v : Set) → New u ps v → All (λ p. p.1 < n) ps → (k : ℕ) → v k ≡ true → (u k ≡ true → k < n) → k < n
new_had [] n u v e a k h f = f (ap (λ (s : Set). s k) e ∙ h)
new_had (p ∷ ps) n u v e a k h f = new_had ps n (u ∪ only p.1) v e.1 a.1 k h (λ g. go (u k) (eqb k p.1) refl refl g)
  where
    go : (x y : Bool) → u k ≡ x → eqb k p.1 ≡ y → (u ∪ only p.1) k ≡ true → k < n
    go true y p' q g = f p'
    go false true p' q g = let d : k ≡ p.1 = borrow.Author.Tests.eqb-true k p.1 q in let z = a.0 in omega arith
    go false false p' q g = absurd (true≢false (sym g ∙ neither p' q))
      where
        neither : u k ≡ false → eqb k p.1 ≡ false → (u ∪ only p.1) k ≡ false
        neither a b = unfold ◌∪◌ only in rw (a, b)

pub undeep : (c : Checked) (d : ℕ) (u : Set) → check_depth c ≡ fine d u → (c ≡ fine d u) × (d < 64)
unfolding check_depth
undeep (fault n) d u e = absurd (let z : ◌≡◌ {A = ℕ} 0 1 = cc in omega arith)
undeep (fine x v) d u e = go (dec_lt 64 (x + 1)) e
  where
    deep_eq : (x d : ℕ) (v u : Set) → fine x v ≡ fine d u → x ≡ d
    deep_eq x d v u e = cc

    go : Dec (64 < x + 1) → pick (ltb 64 (x + 1)) (fault 10) (fine x v) ≡ fine d u → (fine x v ≡ fine d u) × (d < 64)
    go (yes h) e = let q : fault 10 ≡ fine d u = rw (lt-ltb 64 (x + 1) h) at e in absurd (let z : ◌≡◌ {A = ℕ} 0 1 = cc in omega arith)
    go (no h) e =
        let q : fine x v ≡ fine d u = rw (le-ltb 64 (x + 1) (omega arith)) at e in
        let z : x ≡ d = deep_eq x d v u q in
        (q, omega arith)

-- ---- what was sound stays so

module _ (nodes : List Seen) (s : Seen) where
  more_said : said (nodes ++ (s ∷ [])) ≡ said nodes ++ (s.node ∷ [])
  more_said = map-append (λ (z : Seen). z.node) nodes (s ∷ [])

  more_long : length (nodes ++ (s ∷ [])) ≡ length nodes + 1
  more_long = length-append nodes (s ∷ [])

  tree_kept : (k : ℕ) → k < length nodes → tree_at (said (nodes ++ (s ∷ []))) k ≡ tree_at (said nodes) k
  tree_kept k h =
      ap (λ (l : List Node). tree_at l k) more_said ∙ tree_more (said nodes) (s.node ∷ []) k (let z = said_long nodes in omega arith)

  node_kept : (k : ℕ) → k < length nodes → get_or (said (nodes ++ (s ∷ []))) k ListEnd ≡ get_or (said nodes) k ListEnd
  node_kept k h =
      ap (λ (l : List Node). get_or l k ListEnd) more_said ∙ get_or-append (said nodes) (s.node ∷ []) ListEnd k (let z = said_long nodes in omega arith)

  node_last : get_or (said (nodes ++ (s ∷ []))) (length nodes) ListEnd ≡ s.node
  node_last = ap (λ (l : List Node). get_or l (length nodes) ListEnd) more_said ∙ last_of (said nodes) s.node ListEnd (length nodes) (sym (said_long nodes))

  depth_kept : (k : ℕ) → k < length nodes → depths (nodes ++ (s ∷ [])) k ≡ depths nodes k
  depth_kept k h = ap (λ (z : Seen). z.depth) (get_or-append nodes (s ∷ []) unseen k h)

  depth_last : depths (nodes ++ (s ∷ [])) (length nodes) ≡ s.depth
  depth_last = ap (λ (z : Seen). z.depth) (last_of nodes s unseen (length nodes) refl)

  sound_kept : (names i : ℕ) → i < length nodes → Sound (said nodes) names i (depths nodes) → Sound (said (nodes ++ (s ∷ []))) names i (depths (nodes ++ (s ∷ [])))
  sound_kept names i h p =
      let e = sym (node_kept i h) in
      record {
        below = subst (λ (m : Node). All (λ p. p.1 < i) (references m)) e p.below;
        sorts =
            subst (λ (m : Node). All (λ p. of_sort p.0 (tree_at (said (nodes ++ (s ∷ []))) p.1) ≡ true) (references m)) e
            (all_both (λ p. p.1 < i) (λ p. of_sort p.0 (tree_at (said nodes) p.1) ≡ true) (λ p. of_sort p.0 (tree_at (said (nodes ++ (s ∷ []))) p.1) ≡ true)
            (λ q l x. ap (of_sort q.0) (tree_kept q.1 (omega arith)) ∙ x) (references (get_or (said nodes) i ListEnd)) p.below p.sorts);
        known = subst (λ (m : Node). All (λ x. x < names) (names_in m)) e p.known;
        deeper =
            subst (λ (m : Node). All (λ p. depths (nodes ++ (s ∷ [])) p.1 < depths (nodes ++ (s ∷ [])) i) (references m)) e
            (all_both (λ p. p.1 < i) (λ p. depths nodes p.1 < depths nodes i) (λ p. depths (nodes ++ (s ∷ [])) p.1 < depths (nodes ++ (s ∷ [])) i)
            (λ q l x. let y = depth_kept q.1 (omega arith) in let z = depth_kept i h in omega arith) (references (get_or (said nodes) i ListEnd)) p.below p.deeper);
        shallow = let z = depth_kept i h in let y = p.shallow in omega arith;
      }

-- ---- a node is added

module _ (k : ℕ) (b : List ℕ) (so : SoFar) (g : Grown so) (r : Kind) (deep : ℕ) (used : Set) (a : announced k ≡ node r) (room : length so.nodes < 512)
    (m : check_depth (check_all r.body b so 0 so.used) ≡ fine deep used) where
  abbrev seen : Seen
  seen = seen_node r b deep

  abbrev grown_nodes : List Seen
  grown_nodes = so.nodes ++ (seen ∷ [])

  abbrev n : ℕ
  n = length so.nodes

  abbrev v : ℕ → ℕ
  v i = get_or (values r.body b) i 0

  ok : Passed r.body b so 0 so.used deep used
  ok = passed r.body b so 0 so.used deep used (undeep (check_all r.body b so 0 so.used) deep used m).0

  refs : references (r.node v) ≡ field_references r.body v
  refs = (says k r a).refs v

  into : All (Into so.nodes) (references (r.node v))
  into = subst (All (Into so.nodes)) (sym refs) ok.into

  homes : All (Home (said so.nodes) n (λ j. 0)) (references (r.node v))
  homes = all_map (λ p (h : Into so.nodes p). (h.0, sym (g.fit p.1 h.0 p.0) ∙ h.1)) (references (r.node v)) into

  fresh : New so.used (references (r.node v)) used
  fresh = subst (λ (l : List (Sort × ℕ)). New so.used l used) (sym refs) ok.new

  -- the new tree
  planted_last : tree_at (said grown_nodes) n ≡ planted (trees (said grown_nodes) n) (node_no n) (r.node v)
  planted_last = tree_step (said grown_nodes) n ∙ ap (planted (trees (said grown_nodes) n) (node_no n)) (node_last so.nodes seen)

  trees_kept : trees (said grown_nodes) n ≡ trees (said so.nodes) n
  trees_kept =
      ap (λ (l : List Node). trees l n) (more_said so.nodes seen)
      ∙ fun_ext (trees_more (said so.nodes) (r.node v ∷ []) n (let z = said_long so.nodes in omega arith))

  fit_at : (i : ℕ) → i < n + 1 → Dec (i < n) → (s : Sort) → fits s (get_or grown_nodes i unseen).kind ≡ of_sort s (tree_at (said grown_nodes) i)
  fit_at i h (yes d) s =
      ap (λ (z : Seen). fits s z.kind) (get_or-append so.nodes (seen ∷ []) unseen i d) ∙ g.fit i d s
      ∙ ap (of_sort s) (sym (tree_kept so.nodes seen i d))
  fit_at i h (no d) s =
      let j : i ≡ n = omega arith in
      ap (λ (z : Seen). fits s z.kind) (last_of so.nodes seen unseen i j)
      ∙ for_sort (λ s. fits s r.kind ≡ of_sort s (planted (trees (said grown_nodes) n) (node_no n) (r.node v))) ((says k r a).fit (trees (said grown_nodes) n) (node_no n) v) s
      ∙ ap (of_sort s) (sym (ap (tree_at (said grown_nodes)) j ∙ planted_last))

  inner_at : (j : ℕ) → used j ≡ true → j < n
  inner_at j h =
      new_had (references (r.node v)) n so.used used fresh (all_map (λ p (h : Into so.nodes p). h.0) (references (r.node v)) into) j h
      (λ e. let z = g.inner j e in omega arith)

  root_spare : (t : Bool) → used n ≡ t → t ≡ false
  root_spare true e = absurd (let z = inner_at n e in omega arith)
  root_spare false e = refl

  weight_kept : (w : ℕ → ℕ) → spare (weight_at (said grown_nodes) (n + 1) w) (n + 1) used ≡ sum w (n + 1)
  unfolding spare sum
  weight_kept w =
      let f = weight_at (said grown_nodes) (n + 1) w in
      let x : tree_weight (tree_at (said grown_nodes) n) w ≡ w n + total (trees (said so.nodes) n) (references (r.node v)) w =
      ap (λ (t : Tree). tree_weight t w) planted_last ∙ planted_weighs (trees (said grown_nodes) n) (node_no n) (r.node v) w
      ∙ ap (λ (t : ℕ → Tree). w n + total t (references (r.node v)) w) trees_kept in
      let y : spare (weight_at (said so.nodes) n w) n so.used ≡ total (trees (said so.nodes) n) (references (r.node v)) w + spare (weight_at (said so.nodes) n w) n used =
      new_total (said so.nodes) n w (references (r.node v)) so.used used homes fresh in
      let z : spare f n used ≡ spare (weight_at (said so.nodes) n w) n used =
      spare_same f (weight_at (said so.nodes) n w) n used (λ j h. ap (λ (t : Tree). tree_weight t w) (tree_kept so.nodes seen j h)) in
      let q = g.weight w in
      rw (add-one n, root_spare (used n) refl) (omega arith)

  once_kept : (j : ℕ) → mentions j (said grown_nodes) ≡ pick (used j) 1 0
  once_kept j =
      let x = ap (mentions j) (more_said so.nodes seen) ∙ mentions_more j (said so.nodes) (r.node v) in
      let y = new_named j (references (r.node v)) so.used used fresh in
      let z = g.once j in
      omega arith

  sound_at : (i : ℕ) → i < n + 1 → Dec (i < n) → Sound (said grown_nodes) (length so.names) i (depths grown_nodes)
  sound_at i h (yes d) = sound_kept so.nodes seen (length so.names) i d (g.sound i d)
  sound_at i h (no d) =
      let j : i ≡ n = omega arith in
      subst (λ (z : ℕ). Sound (said grown_nodes) (length so.names) z (depths grown_nodes)) (sym j) last_sound
    where
      last_sound : Sound (said grown_nodes) (length so.names) n (depths grown_nodes)
      last_sound =
          let e = sym (node_last so.nodes seen) in
          let f = depth_last so.nodes seen in
          let s = (undeep (check_all r.body b so 0 so.used) deep used m).1 in
          record {
            below = subst (λ (x : Node). All (λ p. p.1 < n) (references x)) e (all_map (λ p (h : Into so.nodes p). h.0) (references (r.node v)) into);
            sorts =
                subst (λ (x : Node). All (λ p. of_sort p.0 (tree_at (said grown_nodes) p.1) ≡ true) (references x)) e
                (all_map (λ p (h : Home (said so.nodes) n (λ j. 0) p). ap (of_sort p.0) (tree_kept so.nodes seen p.1 h.0) ∙ h.1) (references (r.node v)) homes);
            known = subst (λ (x : Node). All (λ y. y < length so.names) (names_in x)) e (subst (All (λ y. y < length so.names)) (sym ((says k r a).names v)) ok.known);
            deeper =
                subst (λ (x : Node). All (λ p. depths grown_nodes p.1 < depths grown_nodes n) (references x)) e
                (all_both (Into so.nodes) (λ p. (get_or so.nodes p.1 unseen).depth ≤ deep) (λ p. depths grown_nodes p.1 < depths grown_nodes n)
                (λ p h x. let y = depth_kept so.nodes seen p.1 h.0 in omega arith) (references (r.node v)) into
                (subst (All (λ p. (get_or so.nodes p.1 unseen).depth ≤ deep)) (sym refs) ok.shallow));
            shallow = omega arith;
          }

-- ---- over all records

keeps : (k : ℕ) (b : List ℕ) (so : SoFar) {next : SoFar} → Grown so → Went k b so next → Grown next
keeps k b so g (went_format a h) =
    record { fit = g.fit; weight = g.weight; inner = g.inner; once = g.once; sound = g.sound; few_names = g.few_names; few_nodes = g.few_nodes }
keeps k b so g (went_name a h z l p) =
    record {
      fit = g.fit;
      weight = g.weight;
      inner = g.inner;
      once = g.once;
      sound = λ i q. absurd (omega arith);
      few_names = let w = length-append so.names (drop 0 (p_name ∷ [])) in omega arith;
      few_nodes = g.few_nodes;
    }
  where
    p_name : List ℕ
    p_name = lib.ListN.take 24 b
keeps k b so g (went_node r deep used a h l m) =
    let e = more_long so.nodes (seen_node r b deep) in
    record {
      fit = λ i q. fit_at k b so g r deep used a l m i (rw e at q) (dec_lt i (length so.nodes));
      weight = λ w. subst (λ (z : ℕ). spare (weight_at (said (so.nodes ++ (seen_node r b deep ∷ []))) z w) z used ≡ sum w z) (sym e) (weight_kept k b so g r deep used a l m w);
      inner = λ j q. let z = inner_at k b so g r deep used a l m j q in rw e (omega arith);
      once = once_kept k b so g r deep used a l m;
      sound = λ i q. sound_at k b so g r deep used a l m i (rw e at q) (dec_lt i (length so.nodes));
      few_names = g.few_names;
      few_nodes = rw e (omega arith);
    }

-- ---- accepted bytes

pub record WellFormed (c : Contents) : Type 0 where
  pub few_names : length c.names ≤ 128
  pub few_nodes : length c.nodes ≤ 512
  pub some_node : 0 < length c.nodes
  -- no node is deeper than 64, and each reference leads to a shallower one
  pub depth : ℕ → ℕ
  pub sound : (i : ℕ) → i < length c.nodes → Sound c.nodes (length c.names) i depth
  -- each node but the root is referred to once, and the root never
  pub once : (k : ℕ) → suc k < length c.nodes → mentions k c.nodes ≡ 1
  pub top : mentions (length c.nodes - 1) c.nodes ≡ 0
  -- the root is a condition
  pub rooted : of_sort condition (tree_at c.nodes (length c.nodes - 1)) ≡ true
  -- whatever the numbers weigh, the root's tree weighs as much as all nodes: each stands in it, and stands once
  pub whole : (w : ℕ → ℕ) → weigh (root c) w ≡ sum w (length c.nodes)

module _ (so : SoFar) (g : Grown so) (c : Contents) (e : Closed so c) where
  last_is : length so.nodes ≡ suc (length so.nodes - 1)
  last_is = let z = e.some_node in omega arith

  top_spare : (t : Bool) → so.used (length so.nodes - 1) ≡ t → t ≡ false
  top_spare true d = absurd (let z = g.inner (length so.nodes - 1) d in let y = last_is in omega arith)
  top_spare false d = refl

  -- the last tree is all that is left over
  only_last : (w : ℕ → ℕ) → tree_weight (tree_at (said so.nodes) (length so.nodes - 1)) w ≡ sum w (length so.nodes)
  unfolding spare
  only_last w =
      let f = weight_at (said so.nodes) (length so.nodes) w in
      let a : spare f (suc (length so.nodes - 1)) so.used ≡ sum w (length so.nodes) = ap (λ (z : ℕ). spare f z so.used) (sym last_is) ∙ g.weight w in
      let b : spare f (length so.nodes - 1) so.used ≡ 0 = spare_last f (length so.nodes - 1) so.used e.all_used in
      let d : pick (so.used (length so.nodes - 1)) 0 (f (length so.nodes - 1)) ≡ f (length so.nodes - 1) =
      ap (λ (t : Bool). pick t 0 (f (length so.nodes - 1))) (top_spare (so.used (length so.nodes - 1)) refl) in
      omega arith

  last_fits : of_sort condition (tree_at (said so.nodes) (length so.nodes - 1)) ≡ true
  last_fits = let y = last_is in sym (g.fit (length so.nodes - 1) (omega arith) condition) ∙ e.top

  whole_of : (w : ℕ → ℕ) → weigh (root (taken so)) w ≡ sum w (length so.nodes)
  unfolding root root_no weight_as
  whole_of w =
      ap (λ (i : ℕ). weigh (as_condition (tree_at (said so.nodes) (i - 1))) w) (said_long so.nodes)
      ∙ at_home condition (tree_at (said so.nodes) (length so.nodes - 1)) w last_fits ∙ only_last w

  formed : WellFormed (taken so)
  formed =
      let l = said_long so.nodes in
      let y = last_is in
      record {
        few_names = g.few_names;
        few_nodes = rw l g.few_nodes;
        some_node = omega arith;
        depth = depths so.nodes;
        sound = λ i h. g.sound i (rw l at h);
        once = λ k h. g.once k ∙ ap (λ (t : Bool). pick t 1 0) (all_get (length so.nodes - 1) so.used e.all_used k (omega arith));
        top =
            ap (λ (i : ℕ). mentions (i - 1) (said so.nodes)) l ∙ g.once (length so.nodes - 1)
            ∙ ap (λ (t : Bool). pick t 1 0) (top_spare (so.used (length so.nodes - 1)) refl);
        rooted = ap (λ (i : ℕ). of_sort condition (tree_at (said so.nodes) (i - 1))) l ∙ last_fits;
        whole = λ w. whole_of w ∙ ap (sum w) (sym l);
      }

-- the theorem
pub well_formed : (bytes : List ℕ) (c : Contents) → read bytes ≡ accepted c → WellFormed c
well_formed bytes c e =
    let w = accepted_keeps bytes Grown (λ k b so next d g h. keeps k b so g h) nothing c e in
    let d = closed w.rest w.so c w.last in
    subst WellFormed d.contents (formed w.so w.holds c d)

-- ---- in particular

-- "the tree's size is its node count"
pub tree_size : (c : Contents) → WellFormed c → size (root c) ≡ length c.nodes
tree_size c f = size_weighs (root c) ∙ f.whole one ∙ sum_same 1 (length c.nodes) ∙ mul-one (length c.nodes)

-- 1 for a number, 0 for any other
abbrev pub just : ℕ → ℕ → ℕ
just j k = pick (eqb k j) 1 0

sum_none : (j n : ℕ) → n ≤ j → sum (just j) n ≡ 0
unfolding sum
sum_none j zero h = refl
sum_none j (suc n) h = rw (ne_eqb n j (λ e. omega arith), sum_none j n (omega arith))

sum_just : (j n : ℕ) → j < n → sum (just j) n ≡ 1
unfolding sum
sum_just j zero h = absurd (omega arith)
sum_just j (suc n) h = go (sum_just j n) (dec_lt j n)
  where
    go : (j < n → sum (just j) n ≡ 1) → Dec (j < n) → just j n + sum (just j) n ≡ 1
    go f (yes l) = rw (ne_eqb n j (λ e. omega arith), f l)
    go f (no l) = let d : n ≡ j = omega arith in rw (eq-eqb n j d, sum_none j n (omega arith))

-- "no node number stands twice in it": each stands exactly once
pub each_once : (c : Contents) → WellFormed c → (j : ℕ) → j < length c.nodes → weigh (root c) (just j) ≡ 1
each_once c f j h = f.whole (just j) ∙ sum_just j (length c.nodes) h
