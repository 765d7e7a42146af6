-- The lists are made in rising node order: what holds once the nodes below n have theirs (`Made`), what the inner functions ask
-- (`Children`, `Ready`), and that the flags which a node's children and its own variable set are those of its variables.
-- Assumes nothing.
use Rattle.std.specs.Prelude.{◌≡◌, ℕ, suc, ◌+◌, ◌*◌, ◌≤◌, ◌<◌, Bool, true, false, ◌⊎◌, length, take, set, replicate}
use Rattle.std.proofs.Math.Path.{sym, ap}
use Rattle.std.proofs.Common.{◌∙◌, subst, arith, eq-or-lt_of_le, inl, inr, drop-cons}
use Rattle.std.proofs.Math.Option.{some}
use mathlib.Core.List.{List, [], ◌∷◌}
use Rattle.std.proofs.Math.ListN.{get_or, drop}
use Rattle.std.proofs.Math.Seq.{drop-length}
use Rattle.rules.specs.Table.{byte, variables, nodes, types_of, Node, Part}
use Rattle.rules.specs.Tree.{insert}
use Rattle.rules.proofs.Laws.Parts.{part_at, node_at, part_below}
use Rattle.rules.proofs.Laws.Header.{Sized, sized, types_long}
use Rattle.rules.proofs.Laws.Rising.{rising, rising_first, flagged, flagged_by, together, length_flagged_by, rising_together, insert_rising, Below, rises_below, rises_short}
use Rattle.rules.proofs.Laws.Variables.{vars_at, vars_at_lem, rises_node, node_kind, node_tag, node_fields, place_of, fields, places, names, with_own, mentioning}
use Rattle.table.specs.Accepted.{AcceptedTable}
use Rattle.table.specs.Lists.{list_at, Row, ListOf, Lists}
use Rattle.table.specs.Laws.Row.{list_long, list_at_lem}
use Rattle.table.specs.Rows.{laid, laid_count, laid_list, laid_kept, laid_long, same_count, same_list}

-- node m has its list
pub record Right (bytes lists : List ℕ) (m : ℕ) : Type 0 where
  pub few : get_or lists (33 * m) 0 ≤ 32
  pub list : list_at lists m ≡ vars_at bytes m

-- each node below n has its list
abbrev pub Upto : List ℕ → List ℕ → ℕ → Type 0
Upto bytes lists n = (m : ℕ) → m < n → Right bytes lists m

pub record Made (bytes lists : List ℕ) (n : ℕ) : Type 0 where
  pub long : length lists ≡ 16896
  pub upto : Upto bytes lists n

-- a node's children, whose lists are read
abbrev pub Children : List ℕ → List ℕ → Type 0
Children lists children = (j : ℕ) → j < length children → Row 32 lists (get_or children j 0)

-- node n of an accepted table is next
pub record Ready (bytes lists : List ℕ) (n : ℕ) : Type 0 where
  pub table : AcceptedTable bytes
  pub inside : n < nodes bytes
  pub made : Made bytes lists n

-- what node n mentions, by the node: its kind says how many of its fields are children and whether it names a variable
pub record NodeMentions (bytes : List ℕ) (n : ℕ) (x : Node) : Type 0 where
  lower : Below n (take (get_or places x.kind 0) (x.a ∷ x.b ∷ x.c ∷ []))
  own : names x.kind ≡ true → x.tag < length (types_of bytes)
  all : vars_at bytes n ≡ with_own (names x.kind) x.tag (together (vars_at bytes) (take (get_or places x.kind 0) (x.a ∷ x.b ∷ x.c ∷ [])))

-- ---- the children, from the last to the first

module _ (vars : ℕ → List ℕ) (cs : List ℕ) (fs : List Bool) where
  pub no_child : fs ≡ flagged_by vars (drop (length cs) cs) fs
  unfolding flagged_by
  no_child = ap (λ (l : List ℕ). flagged_by vars l fs) (sym (drop-length cs))

  pub next_child : (j : ℕ) → j < length cs → flagged (flagged_by vars (drop (suc j) cs) fs) (vars (get_or cs j 0)) ≡ flagged_by vars (drop j cs) fs
  unfolding flagged_by
  next_child j h = sym (ap (λ (l : List ℕ). flagged_by vars l fs) (drop-cons cs j 0 h))

-- ---- an accepted table

module _ (bytes : List ℕ) (table : AcceptedTable bytes) where
  pub types_few : length (types_of bytes) ≤ 32
  types_few = rw (types_long bytes table.0 table.1) (sized bytes table.0 table.1).few

  -- the flags of the table's variables are enough
  flags_first : (n : ℕ) (flags : List Bool) → length flags ≡ 32 → rising 0 flags ≡ vars_at bytes n → rising 0 (take (variables bytes) flags) ≡ vars_at bytes n
  flags_first n flags all e =
      let low : Below (variables bytes) (vars_at bytes n) =
      rw (types_long bytes table.0 table.1) at (rises_below (length (types_of bytes)) (vars_at bytes n) (rises_node bytes table.0 table.1 n)) in
      rising_first (variables bytes) flags (omega (arith, (sized bytes table.0 table.1).few)) (rw e low) ∙ e

  -- the node's list is written where those below it are
  right_next : (lists : List ℕ) (n : ℕ) → n < 512 → length lists ≡ 16896 → Upto bytes lists n
      → Upto bytes (laid lists n (vars_at bytes n)) (suc n)
  right_next lists n inside long upto m h =
      let short : length (vars_at bytes n) ≤ 32
      = omega (arith, rises_short (length (types_of bytes)) (vars_at bytes n) (rises_node bytes table.0 table.1 n), types_few) in
      let room : 33 * n + 1 + length (vars_at bytes n) ≤ length lists = omega arith in
      let h' : m ≤ n = omega arith in
      by_place room short (eq-or-lt_of_le h')
    where
      by_place : 33 * n + 1 + length (vars_at bytes n) ≤ length lists → length (vars_at bytes n) ≤ 32 → (m ≡ n) ⊎ (m < n)
          → Right bytes (laid lists n (vars_at bytes n)) m
      by_place room short (inr below) =
          let alike = laid_kept lists n (vars_at bytes n) room in
          let r = upto m below in
          record {
            few = rw (same_count lists (laid lists n (vars_at bytes n)) n alike m below) r.few;
            list = same_list lists (laid lists n (vars_at bytes n)) n alike m below r.few ∙ r.list;
          }
      by_place room short (inl e) =
          subst (Right bytes (laid lists n (vars_at bytes n))) (sym e)
          (record { few = rw (laid_count lists n (vars_at bytes n) room) short; list = laid_list lists n (vars_at bytes n) room })

  -- a node's list holds its variables, each a variable of the table
  module _ (lists : List ℕ) (n : ℕ) (inside : n < 512) (long : length lists ≡ 16896) (right : Right bytes lists n) where
    right_at : (i : ℕ) → i < get_or lists (33 * n) 0 → get_or (vars_at bytes n) i 0 ≡ get_or lists (33 * n + 1 + i) 0
    right_at i h = ap (λ (l : List ℕ). get_or l i 0) (sym right.list) ∙ list_at_lem lists n i h

    right_count : get_or lists (33 * n) 0 ≡ length (vars_at bytes n)
    right_count = sym (list_long lists n long inside right.few) ∙ ap length right.list

    right_row : Row (length (types_of bytes)) lists n
    right_row = record {
      long = long;
      inside = inside;
      few = right.few;
      low = λ i h. subst (λ v. v < length (types_of bytes)) (right_at i h)
          (rises_below (length (types_of bytes)) (vars_at bytes n) (rises_node bytes table.0 table.1 n) i (rw right_count at h));
    }

    right_of : (q : Part) → part_at bytes n ≡ some q → ListOf bytes lists n q
    right_of q e = record { row = right_row; count = right_count ∙ ap length (vars_at_lem bytes n q e); list = right.list ∙ vars_at_lem bytes n q e; item = λ i h. sym (right_at i h) ∙ ap (λ (vs : List ℕ). get_or vs i 0) (vars_at_lem bytes n q e) }

  -- one node more has its list
  pub made_next : (lists : List ℕ) (n : ℕ) (flags : List Bool) → n < 512 → Made bytes lists n → length flags ≡ 32 → rising 0 flags ≡ vars_at bytes n
      → Made bytes (laid lists n (rising 0 (take (variables bytes) flags))) (n + 1)
  made_next lists n flags inside made all e = rw (flags_first n flags all e) (record {
    long = laid_long lists n (vars_at bytes n) ∙ made.long;
    upto = λ m h. right_next lists n inside made.long made.upto m (omega arith);
  })

  -- all nodes have their lists
  pub lists_all : (lists : List ℕ) → Made bytes lists (nodes bytes) → Lists bytes lists
  lists_all lists made = record { long = made.long; few = types_few; each = each }
    where
      each : (n : ℕ) (q : Part) → part_at bytes n ≡ some q → ListOf bytes lists n q
      each n q e =
          let h = part_below bytes table.0 table.1 n q e in
          let small = (sized bytes table.0 table.1).small in
          right_of lists n (omega arith) made.long (made.upto n h) q e

-- what the next node is made of
module _ (bytes lists : List ℕ) (n : ℕ) (ready : Ready bytes lists n) where
  pub size : Sized bytes
  size = sized bytes ready.table.0 ready.table.1

  module _ (x : Node) (x_is : x ≡ node_at bytes n) where
    -- its children
    abbrev pub children : List ℕ
    children = take (get_or places x.kind 0) (x.a ∷ x.b ∷ x.c ∷ [])

    abbrev flags : List Bool
    flags = flagged_by (list_at lists) children (replicate 32 false)

    pub next_mentions : NodeMentions bytes n x
    next_mentions =
        let m = mentioning bytes ready.table.0 ready.table.1 n ready.inside in
        let kind_is : byte bytes (place_of bytes n) ≡ x.kind = sym (ap (λ (y : Node). y.kind) x_is ∙ node_kind bytes n) in
        let tag_is : byte bytes (place_of bytes n + 1) ≡ x.tag = sym (ap (λ (y : Node). y.tag) x_is ∙ node_tag bytes n) in
        let fields_are : fields bytes (place_of bytes n) ≡ x.a ∷ x.b ∷ x.c ∷ [] = sym (ap (λ (y : Node). y.a ∷ y.b ∷ y.c ∷ []) x_is ∙ node_fields bytes n) in
        record {
          lower = rw (kind_is, fields_are) at m.lower;
          own = rw (kind_is, tag_is) at m.own;
          all = rw (kind_is, tag_is, fields_are) at m.all;
        }

    pub next_own : names x.kind ≡ true → x.tag < 32
    next_own e = omega (arith, next_mentions.own e, types_few bytes ready.table)

    pub next_children : Children lists children
    next_children j h =
        let c = get_or children j 0 in
        let below : c < n = next_mentions.lower j h in
        let small = size.small in
        let inside = ready.inside in
        let r = right_row bytes ready.table lists c (omega arith) ready.made.long (ready.made.upto c below) in
        record { long = r.long; inside = r.inside; few = r.few; low = λ i q. omega (arith, r.low i q, types_few bytes ready.table) }

    -- the flags that its children set
    flags_children : rising 0 flags ≡ together (vars_at bytes) children
    flags_children = rising_together 32 (list_at lists) (vars_at bytes) children low (λ j h. (ready.made.upto (get_or children j 0) (next_mentions.lower j h)).list)
      where
        low : (c : ℕ) → Below 32 (vars_at bytes c)
        low c i h = omega (arith, rises_below (length (types_of bytes)) (vars_at bytes c) (rises_node bytes ready.table.0 ready.table.1 c) i h, types_few bytes ready.table)

    -- are those of its variables, with its own where it names one
    pub flags_plain : names x.kind ≡ false → rising 0 flags ≡ vars_at bytes n
    flags_plain e = flags_children ∙ sym (next_mentions.all ∙ ap (λ (b : Bool). with_own b x.tag (together (vars_at bytes) children)) e)

    pub flags_own : names x.kind ≡ true → rising 0 (set flags x.tag true) ≡ vars_at bytes n
    flags_own e =
        let long : length flags ≡ 32 = length_flagged_by (list_at lists) children (replicate 32 false) in
        sym (insert_rising x.tag flags (rw long (next_own e))) ∙ ap (insert x.tag) flags_children
        ∙ sym (next_mentions.all ∙ ap (λ (b : Bool). with_own b x.tag (together (vars_at bytes) children)) e)
