-- No address holds a slash, so a text has one reading as a net.
use Rattle.std.proofs.Common.{◌≡◌, ◌≢◌, ℕ, suc, ◌+◌, ◌<◌, ◌≤◌, ◌^◌, ◌⊎◌, ◌==◌, Bool, true, false, List, [], ◌∷◌, ◌++◌, length, take, drop, refl, sym, ap, ◌∙◌, subst, arith, inl, inr}
use Rattle.std.specs.Prelude.{decimal, codes, cond, not}
use Rattle.std.specs.List.{position_or_len}
use Rattle.std.specs.List.{before_first, after_first}
use Rattle.std.specs.Char.{digit_value}
use Rattle.std.specs.Str.Parse.{AllDigits}
use Rattle.std.specs.Net.Addr.{IsIpv4Mapped, ipv6_segments}
use Rattle.std.specs.Net.Grammar.{IsDotted, IsGroupsAfter, IsElided, IsColonHex, IsIpText}
use Rattle.std.specs.declared.net.ip_addr.IpAddr.{IpAddr}
use Rattle.std.specs.declared.net.ip_addr.IpAddr.TheVariants.{V4, V6}
use Rattle.std.specs.declared.net.ipv6_addr.Ipv6Addr.{Ipv6Addr}
use Rattle.std.proofs.lemmas.Fmt.{decimal_is_IsNumeral}
use Rattle.std.proofs.lemmas.Bool.Decides.{nat_tests}
use Rattle.std.proofs.lemmas.Bool.{cases_eq, eq-eqb, ne_eqb}
use Rattle.std.proofs.lemmas.List.{length-append}
use Rattle.std.proofs.Math.Seq.{take-append_seam, drop-append-add}
use Rattle.std.proofs.NetLemmas.Theorems.{IsIpText_unique}
use Rattle.daemon_words.specs.declared.ip_net.IpNet.{IpNet}
use Rattle.daemon_words.specs.Nets.{HasParts, IsLone, IsSlashed, IsNetText, IsPlain, width}

-- no byte is a slash
abbrev Free : List ℕ → Type 0
Free [] = Unit {0}
Free (b ∷ bs) = ((b == 47) ≡ false) × Free bs

free_both : (xs ys : List ℕ) → Free xs → Free ys → Free (xs ++ ys)
free_both [] ys x y = y
free_both (b ∷ xs) ys x y = (x.0, free_both xs ys x.1 y)

digit_free : (b : ℕ) → digit_value b < 16 → (b == 47) ≡ false
digit_free b below = grind (arith, nat_tests)

digits_free : (ds : List ℕ) → AllDigits 16 ds → Free ds
digits_free [] all = tt
digits_free (d ∷ ds) all = (digit_free d all.0, digits_free ds all.1)

decimals_free : (ds : List ℕ) → AllDigits 10 ds → Free ds
decimals_free [] all = tt
decimals_free (d ∷ ds) all = (digit_free d (omega (arith, all.0)), decimals_free ds all.1)

decimal_free : (n : ℕ) → n < 256 → Free (decimal n)
decimal_free n small = decimals_free (decimal n) (decimal_is_IsNumeral n (omega (arith, small))).0.1

dotted_free : (text octets : List ℕ) → IsDotted text octets → Free text
dotted_free text octets is =
    let dot : Free (codes ".") = (refl, tt) in
    let two = free_both (decimal is.a ++ codes ".") (decimal is.b) (free_both (decimal is.a) (codes ".") (decimal_free is.a is.fit.0) dot) (decimal_free is.b is.fit.1) in
    let three = free_both (decimal is.a ++ codes "." ++ decimal is.b ++ codes ".") (decimal is.c)
    (free_both (decimal is.a ++ codes "." ++ decimal is.b) (codes ".") two dot) (decimal_free is.c is.fit.2) in
    let four = free_both (decimal is.a ++ codes "." ++ decimal is.b ++ codes "." ++ decimal is.c ++ codes ".") (decimal is.d)
    (free_both (decimal is.a ++ codes "." ++ decimal is.b ++ codes "." ++ decimal is.c) (codes ".") three dot) (decimal_free is.d is.fit.3) in
    subst Free (sym is.spelled) four

groups_free : (ipv4 : Bool) (lead text segments : List ℕ) → Free lead → IsGroupsAfter ipv4 lead text segments → Free text
groups_free ipv4 lead text [] free is = subst Free (sym is) tt
groups_free ipv4 lead text (s ∷ segments) free (inl is) =
    subst Free (sym is.2) (free_both (lead ++ is.0) is.1 (free_both lead is.0 free (digits_free is.0 is.3.0.0.1))
    (groups_free ipv4 (codes ":") is.1 segments (refl, tt) is.4))
groups_free ipv4 lead text (s ∷ segments) free (inr is) =
    subst Free (sym is.3) (free_both lead is.0 free (dotted_free is.0 is.1 is.4))

colon_free : (text segments : List ℕ) → IsColonHex text segments → Free text
colon_free text segments (inl full) = groups_free true [] text segments tt full.0
colon_free text segments (inr is) =
    subst Free (sym is.spelled) (free_both (is.head_text ++ codes "::") is.tail_text
    (free_both is.head_text (codes "::") (groups_free false [] is.head_text is.head tt is.head_groups) (refl, (refl, tt)))
    (groups_free true [] is.tail_text is.tail tt is.tail_groups))

address_free : (text : List ℕ) (a : IpAddr) → IsIpText text a → Free text
address_free text (V4 a) is = dotted_free text _ is
address_free text (V6 a) is = colon_free text _ is

-- the first place of a slash
abbrev slash_at : List ℕ → ℕ
slash_at text = position_or_len (λ b. b == 47) text

free_end : (xs : List ℕ) → Free xs → slash_at xs ≡ length xs
free_end [] free = refl
free_end (x ∷ xs) free = let more = free_end xs free.1 in ap (λ t. cond (not t) (1 + slash_at xs) 0) free.0 ∙ omega (arith, more)

free_slash : (xs ys : List ℕ) → Free xs → slash_at (xs ++ 47 ∷ ys) ≡ length xs
free_slash [] ys free = refl
free_slash (x ∷ xs) ys free =
    let more = free_slash xs ys free.1 in ap (λ t. cond (not t) (1 + slash_at (xs ++ 47 ∷ ys)) 0) free.0 ∙ omega (arith, more)

-- what stands before the first slash, and behind it
pub rebuilt : (text : List ℕ) → position_or_len (λ b. b == 47) text < length text
    → text ≡ before_first (λ b. b == 47) text ++ 47 ∷ after_first (λ b. b == 47) text
rebuilt [] less = absurd (omega (arith, less))
rebuilt (x ∷ xs) less =
    elim (cases_eq x 47) [
      | inl slash ↦
          let none : slash_at (x ∷ xs) ≡ 0 = ap (λ t. cond (not t) (1 + slash_at xs) 0) (eq-eqb x 47 slash) in
          subst (λ n. x ∷ xs ≡ take n (x ∷ xs) ++ 47 ∷ drop (n + 1) (x ∷ xs)) (sym none) (ap (λ y. y ∷ xs) slash)
      | inr other ↦
          let more : slash_at (x ∷ xs) ≡ suc (slash_at xs) = ap (λ t. cond (not t) (1 + slash_at xs) 0) (ne_eqb x 47 other) ∙ omega arith in
          let next : suc (slash_at xs + 1) ≡ suc (slash_at xs) + 1 = omega arith in
          subst (λ n. x ∷ xs ≡ take n (x ∷ xs) ++ 47 ∷ drop (n + 1) (x ∷ xs)) (sym more)
          (ap (λ ys. x ∷ ys) (rebuilt xs (omega (arith, less, more)))
          ∙ ap (λ n. x ∷ take (slash_at xs) xs ++ 47 ∷ drop n (x ∷ xs)) next)
    ]

-- a text without a slash is that of an address
pub no_slash : (text : List ℕ) → position_or_len (λ b. b == 47) text ≡ length text
    → ((net : IpNet) → IsPlain net.address → IsLone text net → ⊥) → (net : IpNet) → IsNetText text net → ⊥
no_slash text none lone net (plain, inl is) = lone net plain is
no_slash text none lone net (plain, inr is) =
    let at = free_slash is.0 is.1 (address_free is.0 net.address is.3.0) in
    let long : length text ≡ length is.0 + suc (length is.1) = ap length is.2 ∙ length-append is.0 (47 ∷ is.1) in
    omega (arith, none, long, ap slash_at is.2 ∙ at)

-- a text with a slash is that of what stands before its first one, and behind it
pub one_slash : (text address bits : List ℕ) → address ≡ before_first (λ b. b == 47) text → bits ≡ after_first (λ b. b == 47) text
    → position_or_len (λ b. b == 47) text < length text
    → ((net : IpNet) → IsPlain net.address → HasParts address bits net → ⊥) → (net : IpNet) → IsNetText text net → ⊥
one_slash text address bits before behind some parts net (plain, inl is) =
    let none = free_end text (address_free text net.address is.0) in omega (arith, some, none)
one_slash text address bits before behind some parts net (plain, inr is) =
    let at : slash_at text ≡ length is.0 = ap slash_at is.2 ∙ free_slash is.0 is.1 (address_free is.0 net.address is.3.0) in
    let front : address ≡ is.0 =
    before ∙ (ap (λ n. take n text) at ∙ (ap (take (length is.0)) is.2 ∙ take-append_seam is.0 (47 ∷ is.1))) in
    let back : bits ≡ is.1 =
    behind ∙ (ap (λ n. drop (n + 1) text) at ∙ (ap (drop (length is.0 + 1)) is.2 ∙ drop-append-add is.0 (47 ∷ is.1) 1)) in
    parts net plain (subst (λ xs. IsIpText xs net.address) (sym front) is.3.0, back ∙ is.3.1, is.3.2)

-- a text has one address, so one that is not plain is that of no plain one
pub not_plain : (text : List ℕ) (a : Ipv6Addr) → IsIpText text (V6 a) → IsIpv4Mapped (ipv6_segments a) → (other : IpAddr) → IsPlain other
    → IsIpText text other → ⊥
not_plain text a is mapped other plain writes = subst IsPlain (IsIpText_unique text other (V6 a) writes is) plain mapped

-- a number of bits that is no text of one is none of this address
pub not_so_many : (address bits : List ℕ) (a : IpAddr) → IsIpText address a → ((n : ℕ) → n ≤ width a → bits ≢ decimal n) → (net : IpNet)
    → HasParts address bits net → ⊥
not_so_many address bits a is none net parts =
    let same = IsIpText_unique address net.address a parts.0 is in
    none net.bits (subst (λ other. net.bits ≤ width other) same parts.2) parts.1
