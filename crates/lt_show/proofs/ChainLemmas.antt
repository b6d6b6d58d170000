-- For the functions that append JSON objects: members that were appended to a text one after another are all behind it,
-- as one list. A further member is one that is not the first of its object: a comma (44) is before it.
use Rattle.std.proofs.Common.{◌≡◌, ℕ, List, [], ◌∷◌, ◌++◌, sym, ◌∙◌, ap, append-nil, append_assoc}
use Rattle.std.proofs.lemmas.List.Concat.{flat_map-append}
use Rattle.lt_show.specs.Values.{Member, member_text, more_members, object}

-- one member `m`, appended to the text `o`, gives `r`, and then the members `ms` give `s`: `s` is `o` with all of them
-- appended
pub more : (o r s : List ℕ) (m : Member) (ms : List Member) → r ≡ o ++ 44 ∷ member_text m → s ≡ r ++ more_members ms
    → s ≡ o ++ more_members (m ∷ ms)
more o r s m ms h k = k ∙ ap (λ (l : List ℕ). l ++ more_members ms) h ∙ append_assoc o (44 ∷ member_text m) (more_members ms)

-- a further member `m`, appended to the text `o`, is a list of one further member; `r` is the text after it
pub one_member : (o r : List ℕ) (m : Member) → r ≡ o ++ 44 ∷ member_text m → r ≡ o ++ more_members (m ∷ [])
one_member o r m h = h ∙ ap (λ (l : List ℕ). o ++ l) (sym (append-nil (44 ∷ member_text m)))

-- two further members, appended to the text `o`: `r` and `s` are the texts after each
pub two_members : (o r s : List ℕ) (m n : Member) → r ≡ o ++ 44 ∷ member_text m → s ≡ r ++ 44 ∷ member_text n
    → s ≡ o ++ more_members (m ∷ n ∷ [])
two_members o r s m n h k = more o r s m (n ∷ []) h (one_member r s n k)

-- three further members, appended to the text `o`: `r`, `s` and `t` are the texts after each
pub three_members : (o r s t : List ℕ) (m n p : Member) → r ≡ o ++ 44 ∷ member_text m → s ≡ r ++ 44 ∷ member_text n
    → t ≡ s ++ 44 ∷ member_text p → t ≡ o ++ more_members (m ∷ n ∷ p ∷ [])
three_members o r s t m n p h k l = more o r t m (n ∷ p ∷ []) h (two_members r s t n p k l)

-- four further members, appended to the text `o`: `r`, `s`, `t` and `u` are the texts after each
pub four_members : (o r s t u : List ℕ) (m n p q : Member) → r ≡ o ++ 44 ∷ member_text m → s ≡ r ++ 44 ∷ member_text n
    → t ≡ s ++ 44 ∷ member_text p → u ≡ t ++ 44 ∷ member_text q → u ≡ o ++ more_members (m ∷ n ∷ p ∷ q ∷ [])
four_members o r s t u m n p q h k l i = more o r u m (n ∷ p ∷ q ∷ []) h (three_members r s t u n p q k l i)

-- five further members, appended to the text `o`: `r`, `s`, `t`, `u` and `v` are the texts after each
pub five_members : (o r s t u v : List ℕ) (m n p q w : Member) → r ≡ o ++ 44 ∷ member_text m
    → s ≡ r ++ 44 ∷ member_text n → t ≡ s ++ 44 ∷ member_text p → u ≡ t ++ 44 ∷ member_text q
    → v ≡ u ++ 44 ∷ member_text w
    → v ≡ o ++ more_members (m ∷ n ∷ p ∷ q ∷ w ∷ [])
five_members o r s t u v m n p q w h k l i j = more o r v m (n ∷ p ∷ q ∷ w ∷ []) h (four_members r s t u v n p q w k l i j)

-- the members `ms`, appended to the text `o`, give `r`, and then the members `ns` give `s`: `s` is `o` with both lists
-- appended
pub more_after : (o r s : List ℕ) (ms ns : List Member) → r ≡ o ++ more_members ms → s ≡ r ++ more_members ns
    → s ≡ o ++ more_members (ms ++ ns)
more_after o r s ms ns h k =
    k ∙ ap (λ (l : List ℕ). l ++ more_members ns) h ∙ append_assoc o (more_members ms) (more_members ns)
    ∙ ap (λ (l : List ℕ). o ++ l) (sym (flat_map-append (λ (m : Member). 44 ∷ member_text m) ms ns))

-- A whole object is appended to the text `o`: `r` is the text after the brace (123) and the first member `m`, `s` that
-- after the further members `ms`, and `t` that after the closing brace (125).
pub object_is : (o r s t : List ℕ) (m : Member) (ms : List Member) → r ≡ o ++ 123 ∷ member_text m
    → s ≡ r ++ more_members ms → t ≡ s ++ 125 ∷ [] → t ≡ o ++ object (m ∷ ms)
object_is o r s t m ms h k l =
    l ∙ ap (λ (x : List ℕ). x ++ 125 ∷ []) (k ∙ ap (λ (x : List ℕ). x ++ more_members ms) h)
    ∙ append_assoc (o ++ 123 ∷ member_text m) (more_members ms) (125 ∷ [])
    ∙ append_assoc o (123 ∷ member_text m) (more_members ms ++ 125 ∷ [])
    ∙ ap (λ (x : List ℕ). o ++ 123 ∷ x) (sym (append_assoc (member_text m) (more_members ms) (125 ∷ [])))

-- an object of two members is appended to the text `o`: `r` and `s` are the texts after each, `t` that after the
-- closing brace (125)
pub two_object : (o r s t : List ℕ) (m n : Member) → r ≡ o ++ 123 ∷ member_text m → s ≡ r ++ 44 ∷ member_text n
    → t ≡ s ++ 125 ∷ [] → t ≡ o ++ object (m ∷ n ∷ [])
two_object o r s t m n h k l = object_is o r s t m (n ∷ []) h (one_member r s n k) l

-- an object of three members is appended to the text `o`: `r`, `s` and `t` are the texts after each, `u` that after the
-- closing brace (125)
pub three_object : (o r s t u : List ℕ) (m n p : Member) → r ≡ o ++ 123 ∷ member_text m → s ≡ r ++ 44 ∷ member_text n
    → t ≡ s ++ 44 ∷ member_text p → u ≡ t ++ 125 ∷ [] → u ≡ o ++ object (m ∷ n ∷ p ∷ [])
three_object o r s t u m n p h k l i = object_is o r t u m (n ∷ p ∷ []) h (two_members r s t n p k l) i
