-- What the parts of an entry that were read say of its bytes.
use Rattle.std.proofs.Common.{◌≡◌, ℕ, ◌+◌, ◌-◌, ◌≤◌, true, false, List, length, take, drop, Option, Some, None, IsNone, refl, sym, ap, subst, ◌∙◌, arith}
use Rattle.std.specs.Prelude.{IsTrue, ◌↔◌, IfSome, option_map}
use Rattle.std.proofs.lemmas.List.{take_rest}
use Rattle.symbol_info.specs.declared.entry.Entry.{Entry}
use Rattle.std.specs.Borrow.{Bor}
use Rattle.spec_formats.specs.Numbers.{AreBytes, number16, number32}
use Rattle.spec_formats.specs.SymbolEntry.{SymbolEntry, BeginsWithEntry, ends_in_nul, after_text, name_place, type_place, comment_place, entry_at, entry_of}
use Rattle.spec_formats.proofs.EntryLemmas.{Tested, made, same_entry, entry_of-tested, entry_of-of_text, text_of-entry_of}
use Rattle.symbol_info.specs.Entry.{BeginsWithNone, entry_meant}

-- a text that was read at a place, and what follows it
pub record TextAt (n : ℕ) (place text rest : List ℕ) : Type 0 where
  pub nul : ends_in_nul n place ≡ true
  pub text_is : text ≡ take n place
  pub rest_is : rest ≡ after_text n place

pub text_at : (n m : ℕ) (place got text rest : List ℕ) → m ≡ n → got ≡ place → (IsTrue true ↔ IsTrue (ends_in_nul m got))
    → text ≡ take m got → rest ≡ after_text m got → TextAt n place text rest
text_at n m place got text rest em eg nul t r =
    subst (λ (k : ℕ). TextAt k place text rest) em
    (subst (λ (l : List ℕ). TextAt m l text rest) eg (record { nul = nul.0 refl; text_is = t; rest_is = r }))

-- a text without its NUL is none
pub no_nul : (n m : ℕ) (place got : List ℕ) → m ≡ n → got ≡ place → (IsTrue false ↔ IsTrue (ends_in_nul m got))
    → ends_in_nul n place ≡ true → ⊥
no_nul n m place got em eg nul is =
    let there : IsTrue false = nul.1 (subst (λ (k : ℕ). ends_in_nul k got ≡ true) (sym em)
    (subst (λ (l : List ℕ). ends_in_nul n l ≡ true) (sym eg) is)) in cc

-- the numbers that were read
pub record Numbers (bytes : List ℕ) (len name type comment : ℕ) : Type 0 where
  pub len_is : len ≡ number32 0 bytes
  pub name_is : name ≡ number16 24 bytes
  pub type_is : type ≡ number16 26 bytes
  pub comment_is : comment ≡ number16 28 bytes

-- the whole of what was read is the entry
pub read_is : (bytes : List ℕ) (len n k c group offset size type_id flags : ℕ) (name types kind comments comment last : List ℕ)
    → Numbers bytes len n k c → group ≡ number32 4 bytes → offset ≡ number32 8 bytes → size ≡ number32 12 bytes
    → type_id ≡ number32 16 bytes → flags ≡ number32 20 bytes
    → 33 + n + k + c ≤ len → len ≤ length bytes
    → TextAt (number16 24 bytes) (name_place bytes) name types → TextAt (number16 26 bytes) (type_place bytes) kind comments
    → TextAt (number16 28 bytes) (comment_place bytes) comment last
    → Some (made group offset size type_id flags name kind comment, take (length bytes - len) (drop len bytes)) ≡ entry_of bytes
read_is bytes len n k c group offset size type_id flags name types kind comments comment last ns eg eo es et ef covers within tn tk tc =
    let tested : Tested bytes = record {
      covers = omega (arith, ns.len_is, ns.name_is, ns.type_is, ns.comment_is, covers);
      within = omega (arith, ns.len_is, within);
      name = tn.nul;
      type_name = tk.nul;
      comment = tc.nul;
    } in
    let entry = same_entry group offset size type_id flags name kind comment (entry_at bytes) eg eo es et ef tn.text_is tk.text_is tc.text_is in
    let rest : take (length bytes - len) (drop len bytes) ≡ drop (number32 0 bytes) bytes =
    take_rest bytes len ∙ ap (λ (m : ℕ). drop m bytes) ns.len_is in
    let found : SymbolEntry × List ℕ = (made group offset size type_id flags name kind comment, take (length bytes - len) (drop len bytes)) in
    let wanted : SymbolEntry × List ℕ = (entry_at bytes, drop (number32 0 bytes) bytes) in
    let same : found ≡ wanted = cc in
    ap (λ (x : SymbolEntry × List ℕ). Some x) same ∙ sym (entry_of-tested bytes tested)

-- what is read, and what is refused
abbrev meant : Option (Entry × Bor (List ℕ)) → Option (SymbolEntry × List ℕ)
meant o = option_map (λ x. (entry_meant x.0, x.1.now)) o

pub text_read : (o : Option (Entry × Bor (List ℕ))) (bytes : List ℕ) → AreBytes bytes → meant o ≡ entry_of bytes
    → IfSome o (λ x. BeginsWithEntry bytes (entry_meant x.0) x.1.now)
text_read None bytes h e = tt
text_read (Some x) bytes h e = text_of-entry_of bytes (entry_meant x.0) x.1.now h (sym e)

pub none_read : (o : Option (Entry × Bor (List ℕ))) (bytes : List ℕ) → AreBytes bytes → meant o ≡ entry_of bytes
    → IsNone o ↔ BeginsWithNone bytes
none_read None bytes h e = (λ none. λ x rest text. absurd (cc (e, entry_of-of_text bytes x rest text)), λ none. refl)
none_read (Some x) bytes h e =
    (λ some. absurd cc, λ none. absurd (none (entry_meant x.0) x.1.now (text_of-entry_of bytes (entry_meant x.0) x.1.now h (sym e))))
