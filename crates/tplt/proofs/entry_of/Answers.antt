-- `tplt::entry_of` meets its contract: by the cases of the template. Assumes nothing.
use Rattle.tplt.proofs.entry_of.Goals as goal

pub ty-requires : goal.ty-requires
ty-requires c = rw c.in-OfVec.is at c.requires

pub ty-requires-in-OfMat : goal.ty-requires-in-OfMat
ty-requires-in-OfMat c = rw c.in-OfMat.is at c.requires

pub ty-requires-in-OfAtomic : goal.ty-requires-in-OfAtomic
ty-requires-in-OfAtomic c = rw c.in-OfAtomic.is at c.requires

pub ty-requires-in-OfArray : goal.ty-requires-in-OfArray
ty-requires-in-OfArray c = rw c.in-OfArray.is at c.requires

pub returns-in-OfVec : goal.returns-in-OfVec
returns-in-OfVec c = rw c.in-OfVec.is c.ty.ensures

pub returns-in-OfMat : goal.returns-in-OfMat
returns-in-OfMat c = rw c.in-OfMat.is c.ty-in-OfMat.ensures

pub returns-in-OfAtomic : goal.returns-in-OfAtomic
returns-in-OfAtomic c = rw c.in-OfAtomic.is c.ty-in-OfAtomic.ensures

pub returns-in-OfArray : goal.returns-in-OfArray
returns-in-OfArray c = rw c.in-OfArray.is c.ty-in-OfArray.ensures
