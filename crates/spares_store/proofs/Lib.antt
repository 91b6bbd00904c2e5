mod Bounds
mod Undoing
mod StoreRules
