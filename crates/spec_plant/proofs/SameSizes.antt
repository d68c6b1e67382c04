-- A type that is the same has the same size.
use Rattle.std.proofs.Common.{◌≡◌, ℕ, ◌+◌, ◌*◌, true, refl, ◌∙◌, ap, min, max}
use Rattle.std.specs.Prelude.{◌==◌, ◌&&◌, bytes_eq}
use Rattle.std.proofs.lemmas.Bool.{and_parts, eqb-true, false≢true}
use Rattle.name_paths.specs.Identifier.{lower}
use Rattle.spec_plant.specs.Plain.{Kind, BOOL, SINT, USINT, BYTE, INT, UINT, WORD, DINT, UDINT, DWORD, TIME, LINT, ULINT, LWORD, REAL, LREAL, kind_size}
use Rattle.spec_plant.specs.Trees.{TypeTree, PlainTree, TextTree, EnumTree, ArrayTree, StructTree, MemberTrees, NoMember, MemberTree}
use Rattle.spec_plant.specs.Sizes.{element_count, aligned, type_align, greatest_align, member_start, type_size, members_end}
use Rattle.spec_plant.specs.Spelling.{type_text}
use Rattle.spec_plant.specs.SameTypes.{is_same_kind, has_same_parts, has_same_members, is_same_type}

same_kind-size : (k l : Kind) → is_same_kind k l ≡ true → kind_size k ≡ kind_size l
same_kind-size BOOL BOOL e = refl
same_kind-size SINT SINT e = refl
same_kind-size USINT USINT e = refl
same_kind-size BYTE BYTE e = refl
same_kind-size INT INT e = refl
same_kind-size UINT UINT e = refl
same_kind-size WORD WORD e = refl
same_kind-size DINT DINT e = refl
same_kind-size UDINT UDINT e = refl
same_kind-size DWORD DWORD e = refl
same_kind-size TIME TIME e = refl
same_kind-size LINT LINT e = refl
same_kind-size ULINT ULINT e = refl
same_kind-size LWORD LWORD e = refl
same_kind-size REAL REAL e = refl
same_kind-size LREAL LREAL e = refl
same_kind-size k l e = absurd (false≢true e)

pub record EqualSize (t u : TypeTree) : Type 0 where
  pub size : type_size t ≡ type_size u
  pub align : type_align t ≡ type_align u

pub record EqualMembers (ms ns : MemberTrees) : Type 0 where
  pub end : (at by : ℕ) → at ≡ by → members_end at ms ≡ members_end by ns
  pub align : greatest_align ms ≡ greatest_align ns

mutual
  unfolding has_same_parts type_size type_align

  pub same_parts-size : (t u : TypeTree) → has_same_parts t u ≡ true → EqualSize t u
  same_parts-size (PlainTree k) (PlainTree l) e = let s = same_kind-size k l e in record { size = s; align = s }
  same_parts-size (TextTree m) (TextTree n) e = record { size = ap (λ x. x + 1) (eqb-true m n e); align = refl }
  same_parts-size (EnumTree name k) (EnumTree other l) e = let s = same_kind-size k l e in record { size = s; align = s }
  same_parts-size (ArrayTree bs t) (ArrayTree cs u) e =
      let p = and_parts (element_count bs == element_count cs) (has_same_parts t u) e in
      let q = same_parts-size t u (p.1) in
      let n = eqb-true (element_count bs) (element_count cs) (p.0) in
      record { size = ap (λ x. x * type_size t) n ∙ ap (λ x. element_count cs * x) q.size; align = q.align }
  same_parts-size (StructTree name ms) (StructTree other ns) e =
      let q = same_members-size 0 ms 0 ns e in
      record { size = ap (λ x. aligned x (greatest_align ms)) (q.end 0 0 refl) ∙ ap (λ x. aligned (members_end 0 ns) x) q.align; align = q.align }
  same_parts-size t u e = absurd (false≢true e)

  same_members-size : (at : ℕ) (ms : MemberTrees) (by : ℕ) (ns : MemberTrees) → has_same_members at ms by ns ≡ true → EqualMembers ms ns
  same_members-size at NoMember by NoMember e = record { end = λ a b q. q; align = refl }
  same_members-size at (MemberTree m t c ms) by (MemberTree n u d ns) e =
      let front = (bytes_eq (lower m) (lower n) && (member_start at t == member_start by u)) && (bytes_eq (type_text t) (type_text u) && has_same_parts t u) in
      let rest = has_same_members (member_start at t + type_size t) ms (member_start by u + type_size u) ns in
      let p = and_parts front rest e in
      let texts = and_parts (bytes_eq (lower m) (lower n) && (member_start at t == member_start by u))
      (bytes_eq (type_text t) (type_text u) && has_same_parts t u) (p.0) in
      let parts = and_parts (bytes_eq (type_text t) (type_text u)) (has_same_parts t u) (texts.1) in
      let x = same_parts-size t u (parts.1) in
      let y = same_members-size (member_start at t + type_size t) ms (member_start by u + type_size u) ns (p.1) in
      record {
        end = λ a b q. y.end (member_start a t + type_size t) (member_start b u + type_size u)
            (ap (λ i. member_start i t + type_size t) q ∙ ap (λ i. aligned b (min i 8) + type_size t) x.align ∙ ap (λ i. member_start b u + i) x.size);
        align = ap (λ i. max i (greatest_align ms)) x.align ∙ ap (λ i. max (type_align u) i) y.align;
      }
  same_members-size at ms by ns e = absurd (false≢true e)

pub same_type-size : (t u : TypeTree) → is_same_type t u ≡ true → type_size t ≡ type_size u
same_type-size t u e =
    let p = and_parts (bytes_eq (type_text t) (type_text u)) (has_same_parts t u) e in
    (same_parts-size t u (p.1)).size
