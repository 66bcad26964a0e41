-- What the calls that read user attributes answer.
use Rattle.std.proofs.Common.{◌≡◌, ℕ, List, None, Some, sym, ap, ◌∙◌, map}
use Rattle.merged_lookup.specs.Merged.{upper_of}
use Rattle.mount_calls.proofs.Words.{Errno, lowers_of, Path, refusal, shows, State}
use Rattle.ov_base.specs.declared.call.CallOf.TheVariants as call
use Rattle.ov_base.specs.declared.reply.Reply.TheVariants as reply
use Rattle.plain_model.specs.Machine.{value_of}
use Rattle.mount_laws.specs.Attributes.{shown_user, chown_fault, get_fault, GetsAttribute, ListsAttributes}
use Rattle.mount_laws.proofs.Attributes.{law_of_get_attribute, law_of_list_attributes}
use Rattle.mount_calls.specs.declared.mount.Mount.{Mount}
use Rattle.mount_calls.specs.States.{IsStateOf, Serves}
use Rattle.mount_calls.proofs.Answering.{serve-refused, serve-done}
use Rattle.mount_calls.proofs.Stating.{the_layers}

module _ (m : Mount) (s : State) (st : IsStateOf m s) (c : ℕ) (p : Path) where
  gets : (n : List ℕ) → GetsAttribute (the_layers m) s c p n
  gets = law_of_get_attribute (upper_of m.layers) (lowers_of m.layers) s st.layers c p

  lists : ListsAttributes (the_layers m) s c p
  lists = law_of_list_attributes (upper_of m.layers) (lowers_of m.layers) s st.layers c p

  -- a get that the layers don't refuse isn't refused
  pub get-allowed : (n : List ℕ) → get_fault (the_layers m) p n ≡ None →
      refusal s c (call.GetAttribute p n) ≡ None
  get-allowed n ok = (gets n).refused ∙ ok

  -- nor is such a list
  pub list-attributes-allowed : chown_fault (the_layers m) p ≡ None →
      refusal s c (call.ListAttributes p) ≡ None
  list-attributes-allowed ok = lists.refused ∙ ok

  -- a get of a user attribute that is set
  pub get-done : (n value : List ℕ) → get_fault (the_layers m) p n ≡ None → value_of (shown_user (shows 0 (the_layers m) p)) n ≡ Some value → Serves (refusal s c (call.GetAttribute p n)) s c (call.GetAttribute p n) (reply.Value value) m
  get-done n value ok is = serve-done _ s c _ _ m (get-allowed n ok) (sym ((gets n).answer value is)) st

  -- and its refusal
  pub get-refused : (n : List ℕ) (e : Errno) → get_fault (the_layers m) p n ≡ Some e → Serves (refusal s c (call.GetAttribute p n)) s c (call.GetAttribute p n) (reply.Refused e) m
  get-refused n e h = serve-refused _ s c _ e m ((gets n).refused ∙ h) st

  -- a list of the user attributes
  pub list-attributes-done : (names : List (List ℕ)) → chown_fault (the_layers m) p ≡ None → names ≡ map (λ x. x.0) (shown_user (shows 0 (the_layers m) p)) → Serves (refusal s c (call.ListAttributes p)) s c (call.ListAttributes p) (reply.AttributeNames names) m
  list-attributes-done names ok is = serve-done _ s c _ _ m (list-attributes-allowed ok) (ap reply.AttributeNames is ∙ sym lists.answer) st

  -- and its refusal
  pub list-attributes-refused : (e : Errno) → chown_fault (the_layers m) p ≡ Some e → Serves (refusal s c (call.ListAttributes p)) s c (call.ListAttributes p) (reply.Refused e) m
  list-attributes-refused e h = serve-refused _ s c _ e m (lists.refused ∙ h) st
