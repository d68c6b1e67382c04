-- Alignments are not 0, and members stand one behind another.
use Rattle.std.proofs.Common.{ℕ, ◌+◌, ◌<◌, ◌≤◌, arith}
use Rattle.spec_plant.specs.Plain.{Kind, BOOL, SINT, USINT, BYTE, INT, UINT, WORD, DINT, UDINT, DWORD, TIME, LINT, ULINT, LWORD, REAL, LREAL, kind_size}
use Rattle.spec_plant.specs.Trees.{TypeTree, PlainTree, TextTree, EnumTree, ArrayTree, StructTree, MemberTrees, NoMember, MemberTree}
use Rattle.spec_plant.specs.Sizes.{type_align, greatest_align, type_size, members_end, member_start}

pub kind_size-bounds : (k : Kind) → (0 < kind_size k) × (kind_size k ≤ 8)
kind_size-bounds BOOL = (omega arith, omega arith)
kind_size-bounds SINT = (omega arith, omega arith)
kind_size-bounds USINT = (omega arith, omega arith)
kind_size-bounds BYTE = (omega arith, omega arith)
kind_size-bounds INT = (omega arith, omega arith)
kind_size-bounds UINT = (omega arith, omega arith)
kind_size-bounds WORD = (omega arith, omega arith)
kind_size-bounds DINT = (omega arith, omega arith)
kind_size-bounds UDINT = (omega arith, omega arith)
kind_size-bounds DWORD = (omega arith, omega arith)
kind_size-bounds TIME = (omega arith, omega arith)
kind_size-bounds LINT = (omega arith, omega arith)
kind_size-bounds ULINT = (omega arith, omega arith)
kind_size-bounds LWORD = (omega arith, omega arith)
kind_size-bounds REAL = (omega arith, omega arith)
kind_size-bounds LREAL = (omega arith, omega arith)

-- each alignment is from 1 to 8
mutual
  unfolding type_align greatest_align

  pub type_align-bounds : (t : TypeTree) → (0 < type_align t) × (type_align t ≤ 8)
  type_align-bounds (PlainTree k) = kind_size-bounds k
  type_align-bounds (TextTree n) = (omega arith, omega arith)
  type_align-bounds (EnumTree name k) = kind_size-bounds k
  type_align-bounds (ArrayTree bs t) = type_align-bounds t
  type_align-bounds (StructTree name ms) = greatest_align-bounds ms

  pub greatest_align-bounds : (ms : MemberTrees) → (0 < greatest_align ms) × (greatest_align ms ≤ 8)
  greatest_align-bounds NoMember = (omega arith, omega arith)
  greatest_align-bounds (MemberTree name t comment ms) =
      let here = type_align-bounds t in
      let rest = greatest_align-bounds ms in
      let a = here.0 in
      let b = here.1 in
      let c = rest.0 in
      let d = rest.1 in
      (omega (arith, a, b, c, d), omega (arith, a, b, c, d))

-- members end where they begin, or behind
pub members_end-le : (at : ℕ) (ms : MemberTrees) → at ≤ members_end at ms
unfolding members_end
members_end-le at NoMember = omega arith
members_end-le at (MemberTree name t comment ms) =
    let rest = members_end-le (member_start at t + type_size t) ms in
    omega (arith, rest)
