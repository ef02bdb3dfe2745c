mod Sizes
mod KnownNames
mod Apart
mod Made
mod LinkTags
mod LinkPlaces
mod PairPlaces
