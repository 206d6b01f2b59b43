use Rattle.decl_index.proofs.FoundLemmas.{shown_is}
use Rattle.decl_index.proofs.index.Index.declared.Goals as goal

pub returns : goal.returns
returns c =
    let inside = c.self.inside in
    record {
      declared = shown_is _ c.args.self.now inside.files.items c.deref.result.now inside.keys.items c.deref-2.result.now inside.spots.items c.deref-3.result.now c.args.reference c.found_at.ensures c.deref.ensures.value c.deref-2.ensures.value c.deref-3.ensures.value c.self.invariant.keys_are c.self.invariant.spots_are c.self.view_is;
    }
