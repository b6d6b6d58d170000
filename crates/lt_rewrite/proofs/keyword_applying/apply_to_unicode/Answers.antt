use Rattle.std.proofs.Common.{◌≡◌, ◌<◌, ◌+◌, ◌^◌, ℕ, vec_len, List, [], ◌∷◌, length, ap, refl, ◌∙◌, subst, length-append, arith}
use Rattle.std.specs.Prelude.{flat_map}
use Rattle.lt_tag.specs.Parts.{UForm}
use Rattle.lt_tag.specs.Extensions.{spell_keyword, spell_u}
use Rattle.lt_rewrite.specs.Extensions.{key_cmp, text_cmp}
use Rattle.lt_rewrite.specs.Applying.{Answers, SwapLeads, DropLeads, TrueLeads, UnicodeLeads}
use Rattle.lt_rewrite.proofs.PartForms.{attributes_count}
use Rattle.lt_rewrite.proofs.ExtensionLeading.{u_answers, u_parts, one_subtag, swap_attributes, drop_attribute}
use Rattle.lt_rewrite.proofs.ExtensionLeading.{swap_keywords, drop_keyword, drop_true}
use Rattle.lt_rewrite.specs.Runs.{rank_of}
use Rattle.lt_rewrite.proofs.keyword_applying.apply_to_unicode.Goals as goal

-- if the places of an extension's subtags are below 2^32, those of its attributes are
few : (start : ℕ) (p : UForm) (as' : List (List ℕ)) → as' ≡ p.attributes → start + 1 + length (spell_u p) < 2 ^ 32
    → start + length (flat_map (λ a. a ∷ []) as') < 2 ^ 32
few start p as' e h =
    omega (arith, h, attributes_count as', length-append p.attributes (flat_map spell_keyword p.keywords), ap length e)

-- the attributes are among the subtags of the extension, whose places are below 2^32
pub swap_at-requires : goal.swap_at-requires
swap_at-requires c = few c.args.start c.args.parts.now c.parts.inside.attributes.items
    (ap (λ (u : UForm). u.attributes) c.parts.view_is) c.requires

-- the attributes are among the subtags of the extension, whose places are below 2^32
pub drop_at-requires : goal.drop_at-requires
drop_at-requires c = few c.args.start c.args.parts.now c.parts.inside.attributes.items
    (ap (λ (u : UForm). u.attributes) c.parts.view_is) c.requires

-- a SwapAttributes step is an exchange on the attributes, and the keywords stay
pub returns-in-SwapAttributes : goal.returns-in-SwapAttributes
returns-in-SwapAttributes c =
    let p : UForm = u_parts c.parts.inside.attributes.items c.parts.inside.keywords.items in
    subst (λ (u : UForm). Answers (UnicodeLeads c.args.start u c.args.step)
    (u_parts c.swap_at.new.parts.items p.keywords) c.swap_at.result) c.parts.view_is
    (u_answers c.args.start p c.args.step swap_attributes (SwapLeads text_cmp one_subtag c.args.start c.args.step.place
    p.attributes) (λ xs. u_parts xs p.keywords) (ap rank_of c.in-SwapAttributes.is)
    (λ xs s. (record { of_kind = c.in-SwapAttributes.is; unnumbered = c.if-step-ne0.false; leads = s }, refl))
    (λ q s. (q.attributes, s.0.leads)) c.swap_at.new.parts.items c.swap_at.result c.swap_at.ensures)

-- a DropAttribute step is a drop on the attributes, and the keywords stay
pub returns-in-DropAttribute : goal.returns-in-DropAttribute
returns-in-DropAttribute c =
    let p : UForm = u_parts c.parts.inside.attributes.items c.parts.inside.keywords.items in
    subst (λ (u : UForm). Answers (UnicodeLeads c.args.start u c.args.step)
    (u_parts c.drop_at.new.parts.items p.keywords) c.drop_at.result) c.parts.view_is
    (u_answers c.args.start p c.args.step drop_attribute (DropLeads text_cmp one_subtag c.args.start c.args.step.place
    p.attributes) (λ xs. u_parts xs p.keywords) (ap rank_of c.in-DropAttribute.is)
    (λ xs s. (record { of_kind = c.in-DropAttribute.is; unnumbered = c.if-step-ne0.false; leads = s }, refl))
    (λ q s. (q.attributes, s.0.leads)) c.drop_at.new.parts.items c.drop_at.result c.drop_at.ensures)

-- a SwapKeywords step is an exchange on the keywords, which begin after the attributes
pub returns-in-SwapKeywords : goal.returns-in-SwapKeywords
returns-in-SwapKeywords c =
    let p : UForm = u_parts c.parts.inside.attributes.items c.parts.inside.keywords.items in
    let all : vec_len c.parts.inside.attributes ≡ length p.attributes = omega (arith, c.parts.inside.attributes.ok.0) in
    subst (λ (u : UForm). Answers (UnicodeLeads c.args.start u c.args.step)
    (u_parts p.attributes c.swap_at-in-SwapKeywords.new.parts.items) c.swap_at-in-SwapKeywords.result)
    c.parts.view_is
    (u_answers c.args.start p c.args.step swap_keywords
    (SwapLeads key_cmp spell_keyword (c.args.start + length p.attributes) c.args.step.place p.keywords)
    (λ xs. u_parts p.attributes xs) (ap rank_of c.in-SwapKeywords.is)
    (λ xs s. (record { of_kind = c.in-SwapKeywords.is; unnumbered = c.if-step-ne0.false; leads = s }, refl))
    (λ q s. (q.keywords, s.0.leads)) c.swap_at-in-SwapKeywords.new.parts.items c.swap_at-in-SwapKeywords.result
    (subst (λ (n : ℕ). Answers (SwapLeads key_cmp spell_keyword n c.args.step.place p.keywords)
    c.swap_at-in-SwapKeywords.new.parts.items c.swap_at-in-SwapKeywords.result)
    (ap (λ n. c.args.start + n) (c.len.ensures ∙ all)) c.swap_at-in-SwapKeywords.ensures))

-- a DropKeyword step is a drop on the keywords, which begin after the attributes
pub returns-in-DropKeyword : goal.returns-in-DropKeyword
returns-in-DropKeyword c =
    let p : UForm = u_parts c.parts.inside.attributes.items c.parts.inside.keywords.items in
    let all : vec_len c.parts.inside.attributes ≡ length p.attributes = omega (arith, c.parts.inside.attributes.ok.0) in
    subst (λ (u : UForm). Answers (UnicodeLeads c.args.start u c.args.step)
    (u_parts p.attributes c.drop_at-in-DropKeyword.new.parts.items) c.drop_at-in-DropKeyword.result) c.parts.view_is
    (u_answers c.args.start p c.args.step drop_keyword
    (DropLeads key_cmp spell_keyword (c.args.start + length p.attributes) c.args.step.place p.keywords)
    (λ xs. u_parts p.attributes xs) (ap rank_of c.in-DropKeyword.is)
    (λ xs s. (record { of_kind = c.in-DropKeyword.is; unnumbered = c.if-step-ne0.false; leads = s }, refl))
    (λ q s. (q.keywords, s.0.leads)) c.drop_at-in-DropKeyword.new.parts.items c.drop_at-in-DropKeyword.result
    (subst (λ (n : ℕ). Answers (DropLeads key_cmp spell_keyword n c.args.step.place p.keywords)
    c.drop_at-in-DropKeyword.new.parts.items c.drop_at-in-DropKeyword.result)
    (ap (λ n. c.args.start + n) (c.len.ensures ∙ all)) c.drop_at-in-DropKeyword.ensures))

-- a DropTrue step drops an only type `true` from one of the keywords, which begin after the attributes
pub returns-in-DropTrue : goal.returns-in-DropTrue
returns-in-DropTrue c =
    let p : UForm = u_parts c.parts.inside.attributes.items c.parts.inside.keywords.items in
    let all : vec_len c.parts.inside.attributes ≡ length p.attributes = omega (arith, c.parts.inside.attributes.ok.0) in
    subst (λ (u : UForm). Answers (UnicodeLeads c.args.start u c.args.step)
    (u_parts p.attributes c.drop_true_at.new.keywords.items) c.drop_true_at.result) c.parts.view_is
    (u_answers c.args.start p c.args.step drop_true (TrueLeads (c.args.start + length p.attributes) c.args.step.place
    p.keywords) (λ xs. u_parts p.attributes xs) (ap rank_of c.in-DropTrue.is)
    (λ xs s. (record { of_kind = c.in-DropTrue.is; unnumbered = c.if-step-ne0.false; leads = s }, refl))
    (λ q s. (q.keywords, s.0.leads)) c.drop_true_at.new.keywords.items c.drop_true_at.result
    (subst (λ (n : ℕ). Answers (TrueLeads n c.args.step.place p.keywords) c.drop_true_at.new.keywords.items
    c.drop_true_at.result) (ap (λ n. c.args.start + n) (c.len.ensures ∙ all)) c.drop_true_at.ensures))
