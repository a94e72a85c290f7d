-- The value that a text has can be given to `canon`, and comes back from the canonical text.
use Rattle.std.proofs.Common.{◌≡◌, ℕ, true, List, Option, Some, None, Result, Ok, Err, option_map, sym}
use Rattle.std.specs.Prelude.{IfOk, IfSome}
use Rattle.exi_names.specs.Datatypes.{Representation}
use Rattle.exi_names.specs.Forms.{IsOf}
use Rattle.exi_names.specs.Seen.{seen}
use Rattle.exi_names.specs.declared.val.Val.{Val}
use Rattle.exi_names.specs.Texts.{has_text}
use Rattle.exi_lexical.specs.Values.{canonical, value}
use Rattle.exi_lexical.proofs.Again.{value_kept}

named : (r : Representation) (t : List ℕ) (o : Option Val) → option_map seen o ≡ value r t → IfSome o (λ v. has_text (seen v) ≡ true)
named r t None e = tt
named r t (Some v) e = (value_kept r t (seen v) (sym e)).named

pub if_named : {E : Type 0} (r : Representation) (t : List ℕ) (x : Result (Option Val) E) → IfOk x (λ o. option_map seen o ≡ value r t) → IfOk x (λ o. IfSome o (λ v. has_text (seen v) ≡ true))
if_named r t (Ok o) e = named r t o e
if_named r t (Err f) e = tt

again : (r : Representation) (t : List ℕ) (o : Option Val) → option_map seen o ≡ value r t → IfSome o (λ v. value r (canonical (seen v)) ≡ Some (seen v))
again r t None e = tt
again r t (Some v) e = (value_kept r t (seen v) (sym e)).again

pub if_again : {E : Type 0} (r : Representation) (t : List ℕ) (x : Result (Option Val) E) → IfOk x (λ o. option_map seen o ≡ value r t)
    → IfOk x (λ o. IfSome o (λ v. value r (canonical (seen v)) ≡ Some (seen v)))
if_again r t (Ok o) e = again r t o e
if_again r t (Err f) e = tt

formed : (r : Representation) (t : List ℕ) (o : Option Val) → option_map seen o ≡ value r t → IfSome o (λ v. IsOf r (seen v))
formed r t None e = tt
formed r t (Some v) e = (value_kept r t (seen v) (sym e)).of

pub if_formed : {E : Type 0} (r : Representation) (t : List ℕ) (x : Result (Option Val) E) → IfOk x (λ o. option_map seen o ≡ value r t) → IfOk x (λ o. IfSome o (λ v. IsOf r (seen v)))
if_formed r t (Ok o) e = formed r t o e
if_formed r t (Err f) e = tt
