-- In a state of the book the production that suits is found by its place.
use Rattle.std.proofs.Common.{◌≡◌, ℕ, ◌<◌, List, [], length, map, slice_get, option_map, Some, None, refl, sym, ap, ◌∙◌}
use Rattle.std.proofs.lemmas.Option.{slice_get-map, slice_get_within, get_or_from_slice_get}
use Rattle.exi_builtin.specs.Learning.{Learning}
use Rattle.exi_gram.specs.Books.{IsStateOf, state_at}
use Rattle.exi_gram.specs.Codes.{Coded, coded}
use Rattle.exi_gram.specs.Naming.{Entry}
use Rattle.exi_gram.specs.Outlines.{Outline}
use Rattle.exi_gram.specs.Tables.{coded_of, kept_entry}
use Rattle.exi_gram.specs.declared.code.Coded.{Coded as Kept}
use Rattle.exi_processing.specs.Configurations.{Setting, in_book}
use Rattle.exi_processing.specs.Handing.{rule_in}
use Rattle.exi_processing.specs.Rules.{book_rule}
use Rattle.exi_writing.specs.OneEvent.{fewest}
use Rattle.exi_choice.specs.Choices.{Finds, FindsFirst, IsFirstAt}
use Rattle.exi_choice.specs.Fitting.{fit_in}
use Rattle.exi_choice.specs.Wanted.{Seeking, first_suiting, suits, suits_in}
use Rattle.exi_choice.specs.declared.fit.Fit.{Fit}
use Rattle.exi_choice.specs.declared.found.Found.{Found}
use Rattle.exi_choice.specs.declared.choice.Way.TheVariants as way
use Rattle.exi_choice.proofs.BuiltIns.{as_coded, coded_mapped, fewest_mapped}

coded_is : {X : Type 0} (a b : X) → Some a ≡ Some b → a ≡ b
coded_is {X} a b e = cc

suiting_in : (g : Setting) (grammar number : ℕ) (s : Seeking) → first_suiting g s (in_book g grammar number) ≡ option_map (as_coded book_rule) (fewest (suits_in g.schema s) (coded (state_at g grammar number)))
suiting_in g grammar number s = ap (fewest (suits g s)) (coded_mapped book_rule (state_at g grammar number)) ∙ fewest_mapped book_rule (suits g s) (coded (state_at g grammar number))

pub none_in_book : (g : Setting) (l : Learning) (grammar number : ℕ) (s : Seeking) → FindsFirst g.schema s (coded (state_at g grammar number)) None → Finds g l s (in_book g grammar number) None
none_in_book g l grammar number s none = suiting_in g grammar number s ∙ ap (option_map (as_coded book_rule)) none

-- the place is one of the codes
pub place_within : (o : Outline) (s : Seeking) (cs : List (Coded Entry)) (place : ℕ) (value : Fit) → IsFirstAt o s cs place value → place < length cs
place_within o s cs place value f = slice_get_within cs place f.coded f.there

pub found_in_book : (g : Setting) (l : Learning) (grammar number : ℕ) (s : Seeking) (ks : List Kept) (place : ℕ) (kept : Kept) (found : Found) → IsStateOf g grammar number → map coded_of ks ≡ coded (state_at g grammar number)
    → IsFirstAt g.schema s (coded (state_at g grammar number)) place found.value → slice_get ks place ≡ Some kept
    → rule_in found.choice.rule ≡ book_rule (kept_entry kept) → found.choice.way ≡ way.Book grammar number place → Finds g l s (in_book g grammar number) (Some found)
found_in_book g l grammar number s ks place kept found exists all f at rule w =
    let cs = coded (state_at g grammar number) in
    let there : slice_get cs place ≡ Some (coded_of kept) = ap (λ (z : List (Coded Entry)). slice_get z place) (sym all) ∙ slice_get-map coded_of ks place ∙ ap (option_map coded_of) at in
    let same : f.coded ≡ coded_of kept = coded_is f.coded (coded_of kept) (sym f.there ∙ there) in
    let parts_there : slice_get (map (λ c. c.parts) cs) place ≡ Some (coded_of kept).parts = slice_get-map (λ (c : Coded Entry). c.parts) cs place ∙ ap (option_map (λ (c : Coded Entry). c.parts)) there in
    record {
      coded = as_coded book_rule (coded_of kept);
      first = suiting_in g grammar number s ∙ ap (option_map (as_coded book_rule)) (f.first ∙ ap (λ (z : Coded Entry). Some z) same);
      rule = rule;
      parts = rw w (get_or_from_slice_get (map (λ (c : Coded Entry). c.parts) cs) place (coded_of kept).parts [] parts_there);
      way = rw w (exists, slice_get_within cs place (coded_of kept) there, refl);
      value = f.value ∙ ap (λ (z : Coded Entry). fit_in g.schema (book_rule z.item).on s.having) same;
    }
