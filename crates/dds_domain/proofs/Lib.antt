mod Laws
mod HeardLaws
mod Pieces
mod Matching
mod Adding
