-- The sites of a list, one more at a time.
use Rattle.std.proofs.Common.{◌≡◌, ◌∙◌, ℕ, List, [], ◌∷◌, ◌++◌, true, false, refl, sym, ap, subst}
use Rattle.std.specs.{Prelude.{slice_get, Option, Some, None, option_map}, List.{filter}}
use Rattle.std.proofs.lemmas.List.{map-append, append-nil, Elements.{filter-append, All-push, All-nil}}
use Rattle.std.proofs.lemmas.Option.{slice_get-map, slice_get_within, get_or_from_slice_get}
use Rattle.row_list.specs.declared.row_op.{Place.{Place}, RowOp.{RowOp, TheVariants.{Load, Store, Reduce, Fetch}}}
use Rattle.row_list.specs.Places.{place_in, is_access}
use Rattle.row_facts.specs.declared.{site.Site.{Site}, fact.Fact.{Fact}}
use Rattle.row_facts.specs.Sites.{sites_of, IsSite, IsSiteOf, AreSites}

pub some-same : {X : Type 0} (x y : X) → Some x ≡ Some y → x ≡ y
some-same x y e = cc

-- what has a place is an access, and nothing else
pub has-place : (op : RowOp) (place : Place) → place_in op ≡ Some place → is_access op ≡ true
has-place (Load at extension) place e = refl
has-place (Store at value) place e = refl
has-place (Reduce at op value) place e = refl
has-place (Fetch at op value compare) place e = refl
has-place _ place e = absurd (cc)

pub no-place : (op : RowOp) → place_in op ≡ None → is_access op ≡ false
no-place (Load at extension) e = absurd (cc)
no-place (Store at value) e = absurd (cc)
no-place (Reduce at op value) e = absurd (cc)
no-place (Fetch at op value compare) e = absurd (cc)
no-place _ e = refl

-- no site
pub no-sites : (list : List RowOp) (facts : List Fact) → AreSites list facts [] []
no-sites list facts = record { same = refl; each = All-nil (IsSite list facts) }

filter_one : (op : RowOp) → is_access op ≡ true → filter is_access (op ∷ []) ≡ op ∷ []
filter_one op e = rw e refl

filter_none : (op : RowOp) → is_access op ≡ false → filter is_access (op ∷ []) ≡ []
filter_none op e = rw e refl

-- with one more access, and with another operation
pub sites_more : (ops : List RowOp) (op : RowOp) → is_access op ≡ true →
    sites_of ops ++ op ∷ [] ≡ sites_of (ops ++ op ∷ [])
sites_more ops op is = ap (λ (xs : List RowOp). sites_of ops ++ xs) (sym (filter_one op is))
    ∙ sym (filter-append is_access ops (op ∷ []))

pub sites_same : (ops : List RowOp) (op : RowOp) → is_access op ≡ false → sites_of ops ≡ sites_of (ops ++ op ∷ [])
sites_same ops op is = sym (append-nil (sites_of ops))
    ∙ ap (λ (xs : List RowOp). sites_of ops ++ xs) (sym (filter_none op is))
    ∙ sym (filter-append is_access ops (op ∷ []))

-- one more
pub more-sites : (list : List RowOp) (facts : List Fact) (ops : List RowOp) (sites : List Site) (op : RowOp) (site :
    Site) →
    AreSites list facts ops sites → is_access op ≡ true → IsSiteOf list facts op site →
    AreSites list facts (ops ++ op ∷ []) (sites ++ site ∷ [])
more-sites list facts ops sites op site are is new = record {
  same = map-append (λ (s : Site). s.op) sites (site ∷ [])
      ∙ ap (λ (xs : List RowOp). xs ++ site.op ∷ []) are.same
      ∙ ap (λ (o : RowOp). sites_of ops ++ o ∷ []) new.same ∙ sites_more ops op is;
  each = All-push (IsSite list facts) sites site are.each new.is;
}

-- an operation that is none
pub same-sites : (list : List RowOp) (facts : List Fact) (ops : List RowOp) (sites : List Site) (op : RowOp) →
    AreSites list facts ops sites → is_access op ≡ false → AreSites list facts (ops ++ op ∷ []) sites
same-sites list facts ops sites op are is = record { same = are.same ∙ sites_same ops op is; each = are.each }

-- a site of a list is one of those that are known
pub record IsKnown (list : List RowOp) (facts : List Fact) (sites : List Site) (k : ℕ) (op : RowOp) : Type 0 where
  pub site : Site
  pub there : slice_get sites k ≡ Some site
  pub same : site.op ≡ op
  pub is : IsSite list facts site

pub known : (list : List RowOp) (facts : List Fact) (sites : List Site) (k : ℕ) (op : RowOp) → AreSites list facts
    list sites →
    slice_get (sites_of list) k ≡ Some op → IsKnown list facts sites k op
known list facts sites k op are e = go (slice_get sites k) refl
  where
    mapped : option_map (λ (s : Site). s.op) (slice_get sites k) ≡ Some op
    mapped = sym (slice_get-map (λ (s : Site). s.op) sites k) ∙ ap (λ (xs : List RowOp). slice_get xs k) are.same ∙ e

    go : (o : Option Site) → slice_get sites k ≡ o → IsKnown list facts sites k op
    go None h = absurd (let f = rw h at mapped in cc)
    go (Some site) h =
        let f : Some site.op ≡ Some op = rw h at mapped in
        let same = get_or_from_slice_get sites k site site h in
        record {
          site = site;
          there = h;
          same = some-same site.op op f;
          is = subst (IsSite list facts) same (are.each k site (slice_get_within sites k site h));
        }
